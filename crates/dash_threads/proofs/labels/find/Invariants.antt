use Rattle.std.proofs.Common.{◌≡◌, ◌==◌, drop}
use Rattle.std.specs.List.{find as first_with}
use Rattle.dash_threads.proofs.labels.find.Given as goal

abbrev pub invariant-loop-barrier : goal.invariant-loop-barrier
invariant-loop-barrier l = first_with (λ b. b.label == l.label) (drop l.barrier-index l.barriers) ≡ first_with (λ b. b.label == l.label) l.barriers
