use Rattle.std.proofs.Common.{◌≡◌, ◌≤◌, ◌-◌, true, length, take, drop}
use Rattle.std.specs.List.{AllByRecursion}
use Rattle.when_queue.specs.Wanted.{is_wanted}
use Rattle.when_queue.specs.Tally.{IsTallied}
use Rattle.when_queue.proofs.queue.count_first.Given as goal

-- those before the place are wanted, and those from there on are counted
abbrev pub invariant-loop-count : goal.invariant-loop-count
invariant-loop-count g l = (l.list ≡ l.initial.list) × (l.len ≡ length l.list) × (l.count ≤ l.len) × AllByRecursion (λ m. is_wanted l.wanted m.item ≡ true) (take l.count l.list) × IsTallied l.tally.whats.items l.tally.callbacks.items (drop l.count l.list)

abbrev pub decreases-loop-count : goal.decreases-loop-count
decreases-loop-count g l = l.len - l.count
