-- the entries so far are counted, and each posts one message at most
use Rattle.std.proofs.Common.{◌≡◌, ◌≤◌, take}
use Rattle.fate_ledger.specs.Ledgers.{posts_of}
use Rattle.fate_ledger.proofs.ledger.posts.Given as goal

abbrev pub invariant-loop-entry : goal.invariant-loop-entry
invariant-loop-entry l = (l.count ≡ posts_of (take l.entry-index l.entries)) × (l.count ≤ l.entry-index)
