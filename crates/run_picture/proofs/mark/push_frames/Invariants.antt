use Rattle.std.proofs.Common.{◌≡◌, ◌++◌, take}
use Rattle.std.specs.List.{flat_map}
use Rattle.run_picture.specs.Marks.{frame_marks}
use Rattle.run_picture.proofs.mark.push_frames.Given as goal

abbrev pub invariant-loop-frame : goal.invariant-loop-frame
invariant-loop-frame l = l.out.items ≡ l.fn.out.items ++ flat_map (frame_marks l.lane) (take l.frame-index l.frames)
