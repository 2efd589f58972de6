use Rattle.std.proofs.Common.{◌≡◌}
use Rattle.loop_tests.proofs.inboxes.put_many.Given as goal

abbrev pub invariant-loop-what : goal.invariant-loop-what
invariant-loop-what g l = (l.sender.inbox ≡ l.inbox) × (l.sender.number ≡ l.initial.sender.number)
