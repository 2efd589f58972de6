-- The order in which a phase takes its callbacks.
use Rattle.std.specs.Prelude.{◌≡◌, ℕ, ◌<◌, ◌⊎◌, true, All, List, [], ◌∷◌, reverse}
use Rattle.frame_phases.specs.declared.entry.Callback.{Callback}
use Rattle.frame_phases.specs.declared.entry.FrameEntry.{FrameEntry}
use Rattle.frame_phases.specs.Frames.{lawful, taken_callbacks}

-- c is due before d, or as early with a lower number
abbrev pub ComesBefore : Callback → Callback → Type 0
ComesBefore c d = (c.due < d.due) ⊎ ((c.due ≡ d.due) × (c.number < d.number))

-- each callback comes before those behind it
abbrev pub IsInOrder : List Callback → Type 0
IsInOrder [] = Unit {0}
IsInOrder (c ∷ cs) = All (ComesBefore c) cs × IsInOrder cs

-- in a lawful history a phase takes callbacks of its own, in the order of due time, then number
abbrev pub PhasesTakeInOrder : Type 0
PhasesTakeInOrder = (interval phases phase now : ℕ) (entries : List FrameEntry) → lawful interval phases entries ≡ true
    → All (λ c. c.phase ≡ phase) (taken_callbacks (reverse entries) phase now) × IsInOrder (taken_callbacks (reverse entries) phase now)
