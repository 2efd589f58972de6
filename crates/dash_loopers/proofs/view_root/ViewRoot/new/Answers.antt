use Rattle.std.proofs.Common.{map, ap, ◌∙◌}
use Rattle.dash_loopers.specs.Played.{standing, gauge_fixed}
use Rattle.dash_loopers.proofs.ViewSteps.{made_unmoved, all_unmoved}
use Rattle.dash_loopers.proofs.view_root.ViewRoot.new.Goals as goal

pub returns-clause-still : goal.returns-clause-still
returns-clause-still c =
    let s = c.args.script.now in
    ap (map standing) (all_unmoved s c.args.looper s.gauges c.loop-line.line-index c.as_slice-line-items.result.now c.loop-line.gauges.items c.loop-line-test.false c.as_slice-line-items.ensures c.loop-line.invariant) ∙ (made_unmoved s c.args.looper s.gauges).0

pub returns-clause-gauges : goal.returns-clause-gauges
returns-clause-gauges c =
    let s = c.args.script.now in
    ap (map gauge_fixed) (all_unmoved s c.args.looper s.gauges c.loop-line.line-index c.as_slice-line-items.result.now c.loop-line.gauges.items c.loop-line-test.false c.as_slice-line-items.ensures c.loop-line.invariant) ∙ (made_unmoved s c.args.looper s.gauges).1
