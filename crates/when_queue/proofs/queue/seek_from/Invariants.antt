use Rattle.std.proofs.Common.{◌≡◌, ◌≤◌, ◌-◌, length}
use Rattle.std.specs.List.{position_or_len}
use Rattle.when_queue.specs.Wanted.{is_wanted}
use Rattle.when_queue.proofs.queue.seek_from.Given as goal

-- nothing before the place is wanted
abbrev pub invariant-loop-index : goal.invariant-loop-index
invariant-loop-index g l = (l.list ≡ l.initial.list) × (l.len ≡ length l.list) × (l.index ≤ l.len) × (l.index ≤ position_or_len (λ m. is_wanted l.wanted m.item) l.list)

abbrev pub decreases-loop-index : goal.decreases-loop-index
decreases-loop-index g l = l.len - l.index
