-- What a countdown keeps of the times that it was given.
use Rattle.std.specs.Prelude.{◌≡◌, ℕ, List, Option, ◌-◌, ◌/◌, [], ◌∷◌, Some, None}
use Rattle.countdown.specs.Moments.{latest}

-- the first of the times and the greatest, or nothing of none
abbrev pub span_of : List ℕ → Option (ℕ × ℕ)
span_of [] = None
span_of (t ∷ ts) = Some (t, latest (t ∷ ts))

-- whole milliseconds from the first time to the greatest, in nanoseconds
abbrev pub milliseconds : ℕ × ℕ → ℕ
milliseconds (first, greatest) = (greatest - first) / 1000000

-- a countdown: its total and its interval in milliseconds, and the span of the times that it was given
pub record Counting : Type 0 where
  pub total : ℕ
  pub interval : ℕ
  pub span : Option (ℕ × ℕ)

-- the countdown was given these times, in this order
abbrev pub WasGiven : Counting → List ℕ → Type 0
WasGiven c times = c.span ≡ span_of times
