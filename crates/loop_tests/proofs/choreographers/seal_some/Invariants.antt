use Rattle.std.proofs.Common.{◌≡◌}
use Rattle.choreographer.specs.Known.{IsPassOf}
use Rattle.choreographer.specs.Ends.{HasHandedOut, entries_in}
use Rattle.loop_tests.proofs.choreographers.seal_some.Given as goal

abbrev pub invariant-loop : goal.invariant-loop
invariant-loop g l = record {
  first : IsPassOf l.first l.c;
  first_number : l.first.number ≡ l.initial.first.number;
  last : IsPassOf l.last l.c;
  last_number : l.last.number ≡ l.initial.last.number;
  parts : HasHandedOut l.last (entries_in l.parts.items);
}
