-- the queue has one sender
use Rattle.std.proofs.Common.{◌≡◌}
use Rattle.loop_bench.proofs.modes.barrier.Given as goal

abbrev pub invariant-loop : goal.invariant-loop
invariant-loop l = l.state.setting.senders ≡ 1
