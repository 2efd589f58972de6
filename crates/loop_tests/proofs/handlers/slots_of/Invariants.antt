use Rattle.shared_queue.specs.Known.{IsOf}
use Rattle.loop_tests.proofs.handlers.slots_of.Given as goal

abbrev pub invariant-loop : goal.invariant-loop
invariant-loop g l = IsOf l.way.poster.now l.way.queue.now
