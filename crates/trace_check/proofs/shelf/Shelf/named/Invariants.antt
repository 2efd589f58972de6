use Rattle.trace_check.specs.Shelves.{IsBare}
use Rattle.trace_check.proofs.shelf.Shelf.named.Given as goal

abbrev pub invariant-loop-entry : goal.invariant-loop-entry
invariant-loop-entry l = IsBare l.shelf
