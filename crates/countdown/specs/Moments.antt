-- The time that a list of frame times spans.
use Rattle.std.specs.Prelude.{ℕ, ◌-◌, ◌/◌, max, Bool, false, nat_le, List, [], ◌∷◌}

-- the greatest of the times, or 0 of none
abbrev pub latest : List ℕ → ℕ
latest [] = 0
latest (t ∷ ts) = max t (latest ts)

-- whole milliseconds from the first of the times to the greatest, or 0 of none
abbrev pub elapsed : List ℕ → ℕ
elapsed [] = 0
elapsed (t ∷ ts) = (latest (t ∷ ts) - t) / 1000000

-- what takes so many milliseconds from the first time on has ended by these times
abbrev pub has_ended : ℕ → List ℕ → Bool
has_ended total [] = false
has_ended total (t ∷ ts) = nat_le total (elapsed (t ∷ ts))
