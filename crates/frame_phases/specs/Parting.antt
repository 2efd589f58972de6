-- A list that is parted among several.
use Rattle.std.specs.Prelude.{◌≡◌, ℕ, ◌==◌, Some, None, List, [], map, if◌then◌else◌, slice_index_or}
use Rattle.std.specs.List.{filter_map}

-- what is dealt to this part, in order
abbrev pub dealt_to : {X : Type 0} → ℕ → List (ℕ × X) → List X
dealt_to {X} part dealt = filter_map (λ (d : ℕ × X). if d.0 == part then Some d.1 else None) dealt

-- the list is parted into these: each element is dealt to one part, by its number, and each part is what is dealt to it, in the order of the list;
-- there are no further parts
abbrev pub AreParted : {X : Type 0} → List X → List (List X) → Type 0
AreParted {X} xs parts = (dealt : List (ℕ × X)) × (map (λ (d : ℕ × X). d.1) dealt ≡ xs) × ((part : ℕ) → dealt_to part dealt ≡ slice_index_or parts part [])
