use Rattle.std.proofs.Common.{◌≡◌}
use Rattle.inbox_queue.proofs.gathering.admit_all.Given as goal

abbrev pub invariant-loop : goal.invariant-loop
invariant-loop g l =
    (l.admitter.inbox ≡ l.inbox) × (l.admitter.taken ≡ l.fn.admitter.taken) × (goal.iterator-loop g).can_next l.iterator' × (goal.iterator-loop g).is_finite l.iterator'
