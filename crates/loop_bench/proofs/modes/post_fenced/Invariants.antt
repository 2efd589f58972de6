-- the queue stays as it is set, with one sender
use Rattle.std.proofs.Common.{◌≡◌}
use Rattle.loop_bench.proofs.modes.post_fenced.Given as goal

abbrev pub invariant-loop : goal.invariant-loop
invariant-loop l = (l.state.setting ≡ l.initial.state.setting) × (l.state.setting.senders ≡ 1)
