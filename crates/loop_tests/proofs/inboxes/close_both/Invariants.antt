use Rattle.std.proofs.Common.{◌≡◌}
use Rattle.inbox_queue.specs.Handed.{AreAllTakenIn}
use Rattle.loop_tests.proofs.inboxes.close_both.Given as goal

abbrev pub invariant-loop : goal.invariant-loop
invariant-loop g l = (l.admitter.inbox ≡ l.inbox) × AreAllTakenIn l.admitter
