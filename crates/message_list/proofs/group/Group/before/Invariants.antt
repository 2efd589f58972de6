use Rattle.std.proofs.Common.{◌≡◌, take}
use Rattle.message_list.specs.Marks.{gaps}
use Rattle.message_list.proofs.group.Group.before.Given as goal

abbrev pub invariant-loop-k : goal.invariant-loop-k
invariant-loop-k l = l.far ≡ gaps (take l.k l.self.list.items)
