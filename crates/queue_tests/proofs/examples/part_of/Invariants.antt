use Rattle.std.proofs.Common.{◌≡◌, false}
use Rattle.queue_tests.proofs.examples.part_of.Given as goal

-- the queue stays as it is set
abbrev pub invariant-loop-row : goal.invariant-loop-row
invariant-loop-row g l = l.state.setting ≡ record { main = false; lockstep = false; senders = 3 }
