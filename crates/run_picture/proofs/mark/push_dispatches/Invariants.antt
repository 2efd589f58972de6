use Rattle.std.proofs.Common.{◌≡◌, ◌++◌, take}
use Rattle.std.specs.List.{flat_map}
use Rattle.run_picture.specs.Marks.{past_marks}
use Rattle.run_picture.proofs.mark.push_dispatches.Given as goal

abbrev pub invariant-loop-line : goal.invariant-loop-line
invariant-loop-line l = l.out.items ≡ l.fn.out.items ++ flat_map (past_marks l.lane) (take l.line-index l.past)
