use Rattle.std.proofs.Common.{◌≡◌}
use Rattle.choreographer.specs.Known.{IsPassOf}
use Rattle.loop_tests.proofs.choreographers.remove_some.Given as goal

abbrev pub invariant-loop : goal.invariant-loop
invariant-loop g l = IsPassOf l.pass l.c × (l.pass.number ≡ l.initial.pass.number)
