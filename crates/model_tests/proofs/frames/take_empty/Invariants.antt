use Rattle.std.proofs.Common.{◌≡◌}
use Rattle.model_tests.proofs.frames.take_empty.Given as goal

abbrev pub invariant-loop-phase : goal.invariant-loop-phase
invariant-loop-phase g l = l.frames.phases ≡ l.initial.frames.phases
