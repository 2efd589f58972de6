use Rattle.std.proofs.Common.{◌≡◌, ◌++◌, ap, ◌∙◌, arith, length}
use Rattle.std.specs.Prelude.{min, string_bytes}
use Rattle.std.specs.List.{flat_map}
use Rattle.run_model.specs.Text.{line_text}
use Rattle.dash_report.proofs.Written.{loopers_written, all_loopers}
use Rattle.dash_report.proofs.report.write_loopers.Goals as goal

pub loop-index-preserved : goal.loop-index-preserved
loop-index-preserved c =
    loopers_written c.args.queues.now c.args.journals.now c.args.frames.now c.min.result c.min-loopers.result c.loop-index.index _ _ _ _ _ _ c.min.ensures c.min-loopers.ensures c.loop-index-test.true c.index-queues-index.is c.index-journals-index.is c.index-frames-index.is c.loop-index.invariant c.in_ok-write_looper.ensures

pub returns : goal.returns
returns c =
    let qs = c.args.queues.now in
    let js = c.args.journals.now in
    let fs = c.args.frames.now in
    let ended : c.loop-index.index ≡ min (min (length qs) (length js)) (length fs) = omega (arith, c.min.ensures, c.min-loopers.ensures, c.loop-index-test.false, c.loop-index.auto.index-end) in
    c.loop-index.invariant ∙ ap (λ l. string_bytes c.args.out.now ++ flat_map line_text l) (all_loopers c.loop-index.index qs js fs ended)
