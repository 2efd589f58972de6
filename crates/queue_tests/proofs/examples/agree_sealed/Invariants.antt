use Rattle.std.proofs.Common.{◌≡◌}
use Rattle.queue_tests.proofs.examples.agree_sealed.Given as goal

abbrev pub invariant-loop-row : goal.invariant-loop-row
invariant-loop-row g l = l.state.setting ≡ record { main = l.main; lockstep = l.lockstep; senders = 3 }
