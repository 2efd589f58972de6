use Rattle.std.proofs.Common.{◌≡◌, drop}
use Rattle.std.specs.List.{flat_map, fold}
use Rattle.run_picture.specs.Period.{distances, least_number, lesser}
use Rattle.run_picture.proofs.scale.period_of.Given as goal

abbrev pub invariant-loop-looper : goal.invariant-loop-looper
invariant-loop-looper l = fold lesser l.least (flat_map distances (drop l.looper-index l.report.loopers)) ≡ least_number (flat_map distances l.report.loopers)
