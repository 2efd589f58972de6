-- The items of a queue by rank: a rank is the item's time, and among equal times a number by which items at time 0 fall and
-- later ones rise.
use Rattle.std.specs.Prelude.{◌≡◌, ◌-◌, ◌^◌, ◌<◌, ℕ, ◌==◌, List, AllPairs, true, false, find, Option, Some, None, if◌then◌else◌}
use Rattle.std.specs.BTreeMap as tree
use Rattle.std.specs.List.{AllByRecursion}
use Rattle.std.specs.Map.{values_of}
use Rattle.loop_model.specs.declared.entry.Entry.{Entry}
use Rattle.loop_model.specs.declared.item.Item.{Item}
use Rattle.loop_model.specs.Entries.{ends}
use Rattle.loop_model.specs.Items.{when_of}
use Rattle.loop_model.specs.WellFormed.{shares_number}
use Rattle.trace_check.specs.declared.items.Items.{Items}
use Rattle.trace_check.specs.Shelves.{by_rank, AreShelved}

-- the items in order
abbrev pub listed : Items → List Item
listed s = values_of s.by_rank.entries

-- the rank of an item of this time that is put in at this place of the history
abbrev pub rank_of : ℕ → ℕ → ℕ × ℕ
rank_of when place = if when == 0 then (0, 2 ^ 64 - 1 - place) else (when, place)

-- the rank of the item is that of a place below n
abbrev pub IsRanked : ℕ → (ℕ × ℕ) × Item → Type 0
IsRanked n e = (place : ℕ) × (place < n) × (e.0 ≡ rank_of (when_of e.1) place)

abbrev pub AreRanked : ℕ → Items → Type 0
AreRanked n s = AllByRecursion (IsRanked n) s.by_rank.entries

-- the ranks ascend, and for each label that was named the shelves keep those of the items that bear it
pub record AreIndexed (s : Items) : Type 0 where
  pub ordered : tree.IsOrdered by_rank s.by_rank
  pub shelved : AreShelved s.shelves s.by_rank.entries

-- the item stands at this rank
abbrev pub StandsAtRank : Items → (ℕ × ℕ) × Item → Type 0
StandsAtRank s e = tree.get by_rank s.by_rank e.0 ≡ Some e.1

-- one of the items that the entry ends, where there is one
abbrev pub IsOneEnded : Items → Entry → Option ((ℕ × ℕ) × Item) → Type 0
IsOneEnded s e None = find (ends e) (listed s) ≡ None
IsOneEnded s e (Some p) = StandsAtRank s p × (ends e p.1 ≡ true)

-- no two items share a number or a token
abbrev pub AreApart : List Item → Type 0
AreApart q = AllPairs (λ x y. shares_number x y ≡ false) q
