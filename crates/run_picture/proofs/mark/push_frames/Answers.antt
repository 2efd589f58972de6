use Rattle.std.proofs.Common.{ap, ◌++◌, ◌∙◌}
use Rattle.run_picture.specs.Marks.{frame_marks}
use Rattle.run_picture.proofs.Pieces.{piece_more}
use Rattle.run_picture.proofs.mark.push_frames.Goals as goal

pub loop-frame-preserved : goal.loop-frame-preserved
loop-frame-preserved c =
    piece_more (frame_marks c.args.lane) c.args.frames.now c.loop-frame.frame-index _ c.args.out.now.items c.loop-frame.out.items c.push_frame.new.out.items c.loop-frame-test.true c.loop-frame.invariant
    (c.in_ok-push_frame.ensures ∙ ap (λ f. c.loop-frame.out.items ++ frame_marks c.args.lane f) c.frame-item.is)
