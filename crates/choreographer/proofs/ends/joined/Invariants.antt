-- the entries of the parts so far
use Rattle.std.proofs.Common.{◌≡◌, take}
use Rattle.choreographer.specs.Ends.{entries_in}
use Rattle.choreographer.proofs.ends.joined.Given as goal

abbrev pub invariant-loop-part : goal.invariant-loop-part
invariant-loop-part l = l.all.items ≡ entries_in (take l.part-index l.parts)
