-- Safe quits by rising moment, the first of the history last.
use Rattle.std.specs.Prelude.{ℕ, ◌≡◌, ◌≤◌, true, false, nat_lt, cond, List, fold, length}
use Rattle.std.specs.List.Sorted.{IsNonDecreasingBy, IsPartitionPoint}
use Rattle.fate_ledger.specs.declared.quits.SafeQuit.{SafeQuit}

-- no quit has a lesser moment than the one before it
abbrev pub AreQuitsRising : List SafeQuit → Type 0
AreQuitsRising quits = IsNonDecreasingBy (λ (q : SafeQuit). q.now) quits

-- the last of these quits that was made before the moment, by its place, or the end where none was
abbrev pub first_quit : ℕ → ℕ → List SafeQuit → ℕ
first_quit moment end quits = fold (λ place q. cond (nat_lt q.now moment) q.place place) end quits

-- a quit of this time and place is there before the others: it is the one for each moment after its time
abbrev pub IsAddedBefore : ℕ → ℕ → List SafeQuit → List SafeQuit → Type 0
IsAddedBefore now place before after = (moment end : ℕ) → first_quit moment end after ≡ cond (nat_lt now moment) place (first_quit moment end before)

-- so many of the quits were made before the moment, and they are the first ones
abbrev pub IsBoundAt : ℕ → List SafeQuit → ℕ → Type 0
IsBoundAt moment quits n =
    (n ≤ length quits) × IsPartitionPoint (λ (q : SafeQuit). nat_lt q.now moment ≡ true) (λ (q : SafeQuit). nat_lt q.now moment ≡ false) quits n
