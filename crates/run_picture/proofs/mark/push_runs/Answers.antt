use Rattle.std.proofs.Common.{ap, ◌++◌, ◌∷◌, [], ◌∙◌}
use Rattle.run_picture.specs.Marks.{run_mark}
use Rattle.run_picture.proofs.Pieces.{piece_more}
use Rattle.run_picture.proofs.mark.push_runs.Goals as goal

pub loop-run-preserved : goal.loop-run-preserved
loop-run-preserved c =
    piece_more (run_mark c.args.lane c.args.time) c.args.runs.now c.loop-run.run-index _ c.args.out.now.items c.loop-run.out.items c.push.new.self.items c.loop-run-test.true c.loop-run.invariant
    (c.in_ok-push.ensures.items ∙ ap (λ m. c.loop-run.out.items ++ m ∷ []) c.frame_mark.ensures)
