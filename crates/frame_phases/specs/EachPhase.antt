-- Which phases a frame takes.
use Rattle.std.specs.Prelude.{◌≡◌, ℕ, ◌<◌, Bool, true, false, List, [], ◌∷◌, ◌++◌}
use Rattle.std.specs.List.{range_with_len}
use mathlib.Core.List.{IsPrefix}
use Rattle.frame_phases.specs.declared.entry.FrameEntry.{FrameEntry}
use Rattle.frame_phases.specs.declared.entry.FrameEntry.TheVariants.{Posted, Removed, Begin, Take, Ran}
use Rattle.frame_phases.specs.Frames.{lawful}

-- the phases that are taken before the first Begin of the entries
unfoldable pub taken_first : List FrameEntry → List ℕ
taken_first [] = []
taken_first (Posted c ∷ entries) = taken_first entries
taken_first (Removed p i t n ∷ entries) = taken_first entries
taken_first (Begin v s t ∷ entries) = []
taken_first (Take p n t ∷ entries) = p ∷ taken_first entries
taken_first (Ran n ∷ entries) = taken_first entries

-- whether a Begin stands among the entries
unfoldable pub has_begin : List FrameEntry → Bool
has_begin [] = false
has_begin (Posted c ∷ entries) = has_begin entries
has_begin (Removed p i t n ∷ entries) = has_begin entries
has_begin (Begin v s t ∷ entries) = true
has_begin (Take p n t ∷ entries) = has_begin entries
has_begin (Ran n ∷ entries) = has_begin entries

-- a frame behind which another one begins took all phases, and the last one a beginning of them
abbrev pub AreTaken : Bool → List ℕ → List ℕ → Type 0
AreTaken true takes all = takes ≡ all
AreTaken false takes all = IsPrefix takes all

-- in a lawful history no phase is taken before the first Begin, and behind each Begin each phase is taken once, by rising phase, before the next one
abbrev pub FramesTakeEachPhase : Type 0
FramesTakeEachPhase = (interval phases : ℕ) (entries : List FrameEntry) → 0 < phases → lawful interval phases entries ≡ true
    → (taken_first entries ≡ [])
    × ((before after : List FrameEntry) (vsync start time : ℕ) → before ++ Begin vsync start time ∷ after ≡ entries
    → AreTaken (has_begin after) (taken_first after) (range_with_len 0 phases))
