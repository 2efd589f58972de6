use Rattle.std.proofs.Common.{◌≡◌, take}
use Rattle.std.specs.List.{flat_map}
use Rattle.run_picture.specs.Marks.{painting_times}
use Rattle.run_picture.proofs.mark.painting_times.Given as goal

abbrev pub invariant-loop-frame : goal.invariant-loop-frame
invariant-loop-frame l = l.times.items ≡ flat_map painting_times (take l.frame-index l.frames)
