use Rattle.std.proofs.Common.{◌≤◌, ◌-◌, length}
use Rattle.message_list.proofs.marks.Marks.groups_until.Given as goal

abbrev pub invariant-loop-low : goal.invariant-loop-low
invariant-loop-low l = (l.low ≤ l.high) × (l.high ≤ length l.self.groups.items)

abbrev pub decreases-loop-low : goal.decreases-loop-low
decreases-loop-low l = l.high - l.low
