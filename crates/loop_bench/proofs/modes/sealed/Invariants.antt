-- the queue has one sender
use Rattle.std.proofs.Common.{◌≡◌}
use Rattle.loop_bench.proofs.modes.sealed.Given as goal

abbrev pub invariant-loop-now : goal.invariant-loop-now
invariant-loop-now l = l.state.setting.senders ≡ 1
