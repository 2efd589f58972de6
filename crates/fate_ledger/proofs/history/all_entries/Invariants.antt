-- the entries of the parts so far
use Rattle.std.proofs.Common.{◌≡◌, take}
use Rattle.loop_model.specs.Chain.{entries_of}
use Rattle.fate_ledger.proofs.history.all_entries.Given as goal

abbrev pub invariant-loop-segment : goal.invariant-loop-segment
invariant-loop-segment l = l.all.items ≡ entries_of (take l.segment-index l.segments)
