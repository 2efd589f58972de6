use Rattle.std.proofs.Common.{◌≡◌, ◌≤◌, ◌-◌, length, take}
use Rattle.when_queue.specs.Tally.{IsTallied}
use Rattle.when_queue.proofs.queue.count_all.Given as goal

-- those before the place are counted
abbrev pub invariant-loop-count : goal.invariant-loop-count
invariant-loop-count g l = (l.list ≡ l.initial.list) × (l.len ≡ length l.list) × (l.count ≤ l.len) × IsTallied l.tally.whats.items l.tally.callbacks.items (take l.count l.list)

abbrev pub decreases-loop-count : goal.decreases-loop-count
decreases-loop-count g l = l.len - l.count
