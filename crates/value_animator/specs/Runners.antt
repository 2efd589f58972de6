-- The state of what runs, by the times that it was given.
use Rattle.std.specs.Prelude.{◌≡◌, ℕ, Bool, true, false, List, [], ◌∷◌, ◌++◌, map, codes, Option, Some, None, if◌then◌else◌}
use Rattle.std.specs.List.{flat_map, enumerate_from}
use Rattle.std.specs.Fmt.{decimal}
use Rattle.countdown.specs.Moments.{has_ended}
use Rattle.countdown.specs.Given.{span_of}
use Rattle.value_animator.specs.declared.plan.Thing.{Thing}
use Rattle.value_animator.specs.declared.plan.Thing.TheVariants as thing_of
use Rattle.value_animator.specs.declared.runner.Runner.{Runner}
use Rattle.value_animator.specs.declared.runner.Runner.TheVariants as runner
use Rattle.value_animator.specs.declared.runner.Telling.{Telling}
use Rattle.value_animator.specs.declared.runner.Telling.TheVariants.{Tick, Finished, Value, End}
use Rattle.animator.specs.Valuing.{end_of}
use Rattle.value_animator.specs.Run.{LineWords, line_text, thing_lines}

-- a thing that was given these times
abbrev pub runner_at : Thing → List ℕ → Runner
runner_at (thing_of.Animator plan) times =
    if has_ended (end_of plan) times then runner.Ended else runner.Animator (record { plan = plan; span = span_of times })
runner_at (thing_of.Countdown total interval) times =
    if has_ended total times then runner.Ended
    else runner.Countdown (record { total = total; interval = interval; span = span_of times })

-- the thing has ended
abbrev pub is_ended : Runner → Bool
is_ended runner.Ended = true
is_ended _ = false

-- the words of what a thing tells, where it tells something
abbrev pub telling_words : Option Telling → List LineWords
telling_words None = []
telling_words (Some (Tick left)) = (codes "tick" ∷ decimal left ∷ []) ∷ []
telling_words (Some Finished) = (codes "finished" ∷ []) ∷ []
telling_words (Some (Value v)) = (codes "value" ∷ decimal v ∷ []) ∷ []
telling_words (Some (End v)) = (codes "end" ∷ decimal v ∷ []) ∷ []

-- the line of what the thing of this number tells at this time, where it tells something
abbrev pub telling_lines : ℕ → ℕ → Option Telling → List LineWords
telling_lines time number telling = map (λ ws. decimal time ∷ decimal number ∷ ws) (telling_words telling)

-- whichever things these are, and whichever times they were given, they are given this one more
abbrev pub AreAsked : List Runner → ℕ → List Runner → Type 0
AreAsked before time after =
    (list : List Thing) (times : List ℕ) → before ≡ map (λ t. runner_at t times) list → after ≡ map (λ t. runner_at t (times ++ time ∷ [])) list

-- whichever things these are, and whichever times they were given, what they tell at this one is written behind what was written
abbrev pub RunnersHaveTold : List Runner → ℕ → List ℕ → List ℕ → Type 0
RunnersHaveTold before time written now =
    (list : List Thing) (times : List ℕ) → before ≡ map (λ t. runner_at t times) list
    → now ≡ written ++ flat_map line_text (flat_map (thing_lines times time) (enumerate_from 0 list))
