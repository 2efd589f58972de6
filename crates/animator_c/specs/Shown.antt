-- How C has an animator and what it tells.
use Rattle.std.specs.Prelude.{◌≡◌, ◌≤◌, ◌++◌, ◌∷◌, [], ℕ, List, Some, None, if◌then◌else◌, take}
use Rattle.animator.specs.Given.{Animating, WasGiven}
use Rattle.animator.specs.Plans.{IsPlan}
use Rattle.animator.specs.Valuing.{animator_answer}
use Rattle.animator.specs.declared.plan.Plan.{Plan}
use Rattle.animator.specs.declared.values.Valued.{Valued}
use Rattle.animator.specs.declared.values.Valued.TheVariants.{Value, End, Over}
use Rattle.animator_c.specs.declared.answers.ValueAnswer.{ValueAnswer}
use Rattle.animator_c.specs.declared.course.FrameAnimator.{FrameAnimator}

-- the plan that C's struct has: its first `count` keys are the plan's
abbrev pub plan_of : FrameAnimator → Plan
plan_of a = record { delay = a.delay; duration = a.duration; repeats = a.repeats; reverse = a.reverse; keys = take a.count a.keys }

-- its plan is within the limits of an animator's
pub record HasPlan (a : FrameAnimator) : Type 0 where
  pub few : a.count ≤ 16
  pub plan : IsPlan (plan_of a)

-- the animator that C's struct is: its span is that of the times it was given
abbrev pub animating : FrameAnimator → Animating
animating a = record { plan = plan_of a; span = if a.begun then Some (a.first, a.latest) else None }

-- what it tells, as C sees it
abbrev pub shown : Valued → ValueAnswer
shown (Value value) = record { value = value; kind = 0 }
shown (End value) = record { value = value; kind = 1 }
shown Over = record { value = 0; kind = 2 }

-- its plan is out of its limits
abbrev pub no_plan : ValueAnswer
no_plan = record { value = 0; kind = 3 }

-- the answer at a time is the animator's, whatever times it was given
abbrev pub TellsAt : FrameAnimator → ℕ → ValueAnswer → Type 0
TellsAt a time r = (times : List ℕ) → WasGiven (animating a) times → r ≡ shown (animator_answer (plan_of a) times time)

-- afterwards it was given that time too
abbrev pub Takes : FrameAnimator → ℕ → FrameAnimator → Type 0
Takes a time b = (times : List ℕ) → WasGiven (animating a) times → WasGiven (animating b) (times ++ time ∷ [])

-- all but the times that it was given stays
abbrev pub IsSameBut : FrameAnimator → FrameAnimator → Type 0
IsSameBut a b = b ≡ record a { first = b.first; latest = b.latest; begun = b.begun }
