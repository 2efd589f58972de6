use Rattle.run_picture.specs.Marks.{past_marks}
use Rattle.run_picture.proofs.Pieces.{piece_more}
use Rattle.run_picture.proofs.mark.push_dispatches.Goals as goal

pub loop-line-preserved : goal.loop-line-preserved
loop-line-preserved c =
    piece_more (past_marks c.args.lane) c.args.past.now c.loop-line.line-index _ c.args.out.now.items c.loop-line.out.items c.push_past.new.out.items c.loop-line-test.true c.loop-line.invariant
    c.in_ok-push_past.ensures
