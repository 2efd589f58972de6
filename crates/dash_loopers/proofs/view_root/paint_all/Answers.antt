use Rattle.std.proofs.Common.{◌++◌, map, refl, sym, ap, ◌∙◌, arith, List}
use Rattle.std.specs.List.{flat_map, enumerate_from}
use Rattle.std.proofs.lemmas.List.{append-nil, take_all}
use Rattle.dash_loopers.specs.declared.view_root.Gauge.{Gauge}
use Rattle.dash_loopers.specs.Played.{paint_of, paint_of_gauge}
use Rattle.dash_loopers.proofs.ViewSteps.{painted_more}
use Rattle.dash_loopers.proofs.view_root.paint_all.Goals as goal

pub loop-state-init : goal.loop-state-init
loop-state-init c = (refl, λ small. sym (append-nil _))

pub loop-state-preserved : goal.loop-state-preserved
loop-state-preserved c =
    let counted = c.loop-state.invariant.0 in
    let added = c.saturating_add-gauge.ensures in
    let before = map paint_of c.args.painted.now.items in
    (omega (arith, counted, added), λ small. c.in_ok-paint_gauge.ensures ∙ painted_more before (map paint_of c.loop-state.painted.items) c.args.gauges.now c.loop-state.state-index c.loop-state.gauge _ c.loop-state-test.true small counted (c.loop-state.invariant.1 small))

pub returns : goal.returns
returns c =
    let before = map paint_of c.args.painted.now.items in
    λ small. c.loop-state.invariant.1 small ∙ ap (λ (vs : List Gauge). before ++ flat_map paint_of_gauge (enumerate_from 0 vs)) (take_all c.loop-state.state-index c.args.gauges.now c.loop-state-test.false)
