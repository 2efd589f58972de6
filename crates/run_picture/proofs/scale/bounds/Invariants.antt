use Rattle.std.proofs.Common.{take}
use Rattle.std.specs.List.{AllByRecursion}
use Rattle.run_picture.specs.Groups.{IsBetween}
use Rattle.run_picture.proofs.scale.bounds.Given as goal

abbrev pub invariant-loop-mark : goal.invariant-loop-mark
invariant-loop-mark l = AllByRecursion (IsBetween l.first l.last) (take l.mark-index l.marks)
