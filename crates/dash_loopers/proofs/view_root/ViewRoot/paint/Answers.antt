use Rattle.std.proofs.Common.{◌++◌, map, ap, ◌∙◌, List, length, arith}
use Rattle.std.specs.List.{flat_map, enumerate_from}
use Rattle.std.proofs.lemmas.Result.{on_ok_weaker}
use Rattle.loop_model.specs.declared.journal.Act.{Act}
use Rattle.dash_loopers.specs.declared.view_root.Gauge.{Gauge}
use Rattle.dash_loopers.specs.Played.{paint_of, paint_of_gauge}
use Rattle.dash_loopers.proofs.ViewSteps.{painted_so, as_many}
use Rattle.dash_loopers.proofs.view_root.ViewRoot.paint.Goals as goal

pub returns-clause-painted : goal.returns-clause-painted
returns-clause-painted c s q text lines =
    let root = c.args.self.now in
    let before = map paint_of root.painted.items in
    let many = as_many s q root.gauges.items lines in
    let same = ap (λ (vs : List Gauge). length vs) c.as_slice.ensures.value in
    let most = text.gauges in
    on_ok_weaker c.paint_all.result
    (λ told. told ∙ (ap (λ (vs : List Gauge). before ++ flat_map paint_of_gauge (enumerate_from 0 vs)) c.as_slice.ensures.value ∙ ap (λ (l : List Act). before ++ l) (painted_so s q root.gauges.items lines)))
    (c.paint_all.ensures (omega (arith, same, many, most)))
