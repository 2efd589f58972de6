use Rattle.std.proofs.Common.{◌≡◌, drop}
use Rattle.std.specs.List.{fold}
use Rattle.run_picture.specs.Period.{distances, distances_from, lesser}
use Rattle.run_picture.proofs.scale.least_distance.Given as goal

abbrev pub invariant-loop-frame : goal.invariant-loop-frame
invariant-loop-frame l =
    fold lesser l.least (distances_from l.before (drop l.frame-index l.later)) ≡ fold lesser l.fn.least (distances l.looper)
