use Rattle.std.proofs.Common.{ap, [], ◌++◌, ◌∙◌}
use Rattle.run_picture.specs.Marks.{painting_times}
use Rattle.run_picture.proofs.Pieces.{piece_more}
use Rattle.run_picture.proofs.mark.painting_times.Goals as goal

pub loop-frame-preserved : goal.loop-frame-preserved
loop-frame-preserved c =
    piece_more painting_times c.args.frames.now c.loop-frame.frame-index _ [] c.loop-frame.times.items c.push_time.new.times.items c.loop-frame-test.true c.loop-frame.invariant
    (c.in_ok-push_time.ensures ∙ ap (λ f. c.loop-frame.times.items ++ painting_times f) c.frame-item.is)
