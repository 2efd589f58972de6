use Rattle.std.proofs.Common.{◌≡◌, drop}
use Rattle.run_picture.specs.Rows.{last_painted}
use Rattle.run_picture.proofs.shelf.value_of.Given as goal

abbrev pub invariant-loop-mark : goal.invariant-loop-mark
invariant-loop-mark l = last_painted l.last (drop l.mark-index l.group.marks) ≡ last_painted 0 l.group.marks
