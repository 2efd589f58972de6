use Rattle.std.proofs.Common.{◌≡◌, ◌+◌, ◌-◌, ◌≤◌, length, take}
use Rattle.message_list.specs.Marks.{counts}
use Rattle.message_list.proofs.marks.Marks.pass.Given as goal

-- those gone past, and what is left
abbrev pub invariant-loop-near : goal.invariant-loop-near
invariant-loop-near l = (l.near ≤ length l.self.groups.items) × (l.self.base + l.far ≡ l.self.start + counts (take l.near l.self.groups.items) + l.left)

abbrev pub decreases-loop-near : goal.decreases-loop-near
decreases-loop-near l = length l.self.groups.items - l.near
