use Rattle.std.proofs.Common.{◌≡◌, ◌≤◌, drop, length, true}
use Rattle.std.specs.List.{AllByRecursion}
use Rattle.when_queue.specs.Queue.{is_later}
use Rattle.when_queue.proofs.queue.seek_later.Given as goal

-- all from the place on are later
abbrev pub invariant-loop-count : goal.invariant-loop-count
invariant-loop-count g l = (l.list ≡ l.initial.list) × (l.count ≤ length l.list) × AllByRecursion (λ m. is_later l.now m ≡ true) (drop l.count l.list)

abbrev pub decreases-loop-count : goal.decreases-loop-count
decreases-loop-count g l = l.count
