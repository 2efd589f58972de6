use Rattle.std.proofs.Common.{◌≡◌}
use Rattle.choreographer.specs.Known.{IsPassOf}
use Rattle.loop_tests.proofs.choreographers.look_at_each.Given as goal

abbrev pub invariant-loop-row : goal.invariant-loop-row
invariant-loop-row g l = record {
  pass : IsPassOf l.pass l.c;
  number : l.pass.number ≡ l.initial.pass.number;
  poster : IsPassOf l.poster l.c;
  client : IsPassOf l.client.pass l.c;
}
