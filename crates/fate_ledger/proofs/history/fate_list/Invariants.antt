-- the entries from the place on have been gone through
use Rattle.std.proofs.Common.{◌≤◌, length}
use Rattle.fate_ledger.specs.Ledgers.{StandsAtPlace}
use Rattle.fate_ledger.proofs.history.fate_list.Given as goal

abbrev pub decreases-loop-place : goal.decreases-loop-place
decreases-loop-place l = l.place

abbrev pub invariant-loop-place : goal.invariant-loop-place
invariant-loop-place l = StandsAtPlace l.entries l.place l.ledger × (l.place ≤ length l.entries)
