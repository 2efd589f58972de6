use Rattle.std.proofs.Common.{◌≡◌}
use Rattle.shared_queue.specs.Known.{IsOf}
use Rattle.loop_tests.proofs.turns.post_many.Given as goal

abbrev pub invariant-loop-what : goal.invariant-loop-what
invariant-loop-what g l = IsOf l.poster l.queue × (l.poster.sender ≡ l.initial.poster.sender) × (l.poster.view.sealed ≡ l.initial.poster.view.sealed)
