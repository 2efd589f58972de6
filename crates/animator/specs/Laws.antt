-- What holds of every animator.
use Rattle.std.specs.Prelude.{◌≡◌, ◌↔◌, ℕ, List, ◌∷◌, ◌++◌}
use Rattle.animator.specs.declared.values.Valued.TheVariants.{End, Over}
use Rattle.animator.specs.declared.plan.Plan.{Plan}
use Rattle.animator.specs.Valuing.{animator_answer, end_value}

-- at one of the times the animator answered its end, with the value that stays
pub record HasToldEnd (plan : Plan) (times : List ℕ) : Type 0 where
  pub before : List ℕ
  pub time : ℕ
  pub after : List ℕ
  pub are : times ≡ before ++ time ∷ after
  pub told : animator_answer plan before time ≡ End (end_value plan)

-- an animator answers that it is over exactly where it has told its end at a time before, so it tells its end once
abbrev pub EndsAreToldOnce : Type 0
EndsAreToldOnce = (plan : Plan) (times : List ℕ) (time : ℕ) → (animator_answer plan times time ≡ Over) ↔ HasToldEnd plan times
