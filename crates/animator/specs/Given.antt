-- What an animator keeps of the times that it was given.
use Rattle.std.specs.Prelude.{◌≡◌, ℕ, List, Option}
use Rattle.countdown.specs.Given.{span_of}
use Rattle.animator.specs.declared.plan.Plan.{Plan}

-- an animator: its plan, and the span of the times that it was given
pub record Animating : Type 0 where
  pub plan : Plan
  pub span : Option (ℕ × ℕ)

-- the animator was given these times, in this order
abbrev pub WasGiven : Animating → List ℕ → Type 0
WasGiven a times = a.span ≡ span_of times
