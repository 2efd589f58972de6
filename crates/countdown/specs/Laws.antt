-- What holds of every countdown.
use Rattle.std.specs.Prelude.{◌≡◌, ◌↔◌, ℕ, List, ◌∷◌, ◌++◌}
use Rattle.countdown.specs.declared.timer.Ticked.TheVariants.{Finished, Over}
use Rattle.countdown.specs.Ticking.{countdown_answer}

-- at one of the times the countdown answered that it finished
pub record HasFinished (total interval : ℕ) (times : List ℕ) : Type 0 where
  pub before : List ℕ
  pub time : ℕ
  pub after : List ℕ
  pub are : times ≡ before ++ time ∷ after
  pub finished : countdown_answer total interval before time ≡ Finished

-- a countdown answers that it is over exactly where it has finished at a time before, so it finishes once
abbrev pub EndsAreToldOnce : Type 0
EndsAreToldOnce = (total interval : ℕ) (times : List ℕ) (time : ℕ)
    → (countdown_answer total interval times time ≡ Over) ↔ HasFinished total interval times
