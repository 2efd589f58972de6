-- Which message of a list in order is the first that may be dispatched.
use Rattle.std.specs.Prelude.{◌≡◌, ◌<◌, ◌⊎◌, ℕ, true, false, List, Option, Some, None, slice_get, take, nat_lt, if◌then◌else◌}
use Rattle.std.specs.List.{list_any}
use Rattle.loop_model.specs.declared.item.Item.{Item}
use Rattle.loop_model.specs.Items.{is_barrier, is_asynchronous}

-- the item at this place is a message that is asynchronous, or before which no barrier stands
pub record IsEligibleAt (q : List Item) (i : ℕ) : Type 0 where
  pub item : Item
  pub there : slice_get q i ≡ Some item
  pub message : is_barrier item ≡ false
  pub free : (is_asynchronous item ≡ true) ⊎ (list_any is_barrier (take i q) ≡ false)

-- an eligible message stands at the place, and none before it; without a place none is eligible
abbrev pub IsFirst : List Item → Option ℕ → Type 0
IsFirst q None = (i : ℕ) → IsEligibleAt q i → ⊥
IsFirst q (Some i) = IsEligibleAt q i × ((j : ℕ) → j < i → IsEligibleAt q j → ⊥)

-- the place, where so many have one of that number
abbrev pub place_within : ℕ → ℕ → Option ℕ
place_within i n = if nat_lt i n then Some i else None
