use Rattle.std.proofs.Common.{◌≡◌, ◌+◌, ◌-◌, ◌≤◌, length, take}
use Rattle.message_list.specs.Marks.{gaps}
use Rattle.message_list.proofs.group.Group.find.Given as goal

-- those gone past, and what is left
abbrev pub invariant-loop-mark : goal.invariant-loop-mark
invariant-loop-mark l = (l.mark ≤ length l.self.list.items) × (l.far ≡ gaps (take l.mark l.self.list.items) + l.left)

abbrev pub decreases-loop-mark : goal.decreases-loop-mark
decreases-loop-mark l = length l.self.list.items - l.mark
