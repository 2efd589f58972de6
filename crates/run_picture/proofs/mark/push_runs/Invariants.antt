use Rattle.std.proofs.Common.{◌≡◌, ◌++◌, take}
use Rattle.std.specs.List.{flat_map}
use Rattle.run_picture.specs.Marks.{run_mark}
use Rattle.run_picture.proofs.mark.push_runs.Given as goal

abbrev pub invariant-loop-run : goal.invariant-loop-run
invariant-loop-run l = l.out.items ≡ l.fn.out.items ++ flat_map (run_mark l.lane l.time) (take l.run-index l.runs)
