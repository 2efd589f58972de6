use Rattle.std.proofs.Common.{◌≡◌}
use Rattle.queue_tests.proofs.examples.pass_all.Given as goal

abbrev pub invariant-loop-when : goal.invariant-loop-when
invariant-loop-when l = l.state.setting.senders ≡ 2
