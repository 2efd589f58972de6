use Rattle.std.proofs.Common.{◌≡◌, ◌+◌, ◌-◌, ◌≤◌, take}
use Rattle.message_list.specs.Marks.{counts}
use Rattle.message_list.proofs.marks.Marks.go_to_group.Given as goal

abbrev pub invariant-loop-near : goal.invariant-loop-near
invariant-loop-near l = (l.near ≤ l.group) × (l.base ≡ l.self.start + counts (take l.near l.self.groups.items))

abbrev pub decreases-loop-near : goal.decreases-loop-near
decreases-loop-near l = l.group - l.near
