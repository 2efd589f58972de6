-- the queue stays as it is set, with one sender
use Rattle.std.proofs.Common.{◌≡◌}
use Rattle.loop_bench.proofs.modes.post_each.Given as goal

abbrev pub invariant-loop-i : goal.invariant-loop-i
invariant-loop-i l = (l.state.setting ≡ l.initial.state.setting) × (l.state.setting.senders ≡ 1)
