use Rattle.std.proofs.Common.{◌≡◌}
use Rattle.shared_queue.specs.Known.{IsOf}
use Rattle.loop_tests.proofs.turns.take_one.Given as goal

abbrev pub invariant-loop : goal.invariant-loop
invariant-loop g l = IsOf l.poster l.queue × (l.poster.sender ≡ l.initial.poster.sender) × (l.poster.view.sealed ≡ l.initial.poster.view.sealed)
