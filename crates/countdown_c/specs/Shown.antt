-- How C has a countdown and what it tells.
use Rattle.std.specs.Prelude.{◌≡◌, ◌++◌, ◌∷◌, [], ℕ, List, Some, None, if◌then◌else◌}
use Rattle.countdown.specs.Given.{Counting, WasGiven}
use Rattle.countdown.specs.Ticking.{countdown_answer}
use Rattle.countdown.specs.declared.timer.Ticked.{Ticked}
use Rattle.countdown.specs.declared.timer.Ticked.TheVariants.{Tick, Quiet, Finished, Over}
use Rattle.countdown_c.specs.declared.answers.TickAnswer.{TickAnswer}
use Rattle.countdown_c.specs.declared.timer.FrameTimer.{FrameTimer}

-- the countdown that C's struct is: its span is that of the times it was given
abbrev pub counting : FrameTimer → Counting
counting t = record { total = t.total; interval = t.interval; span = if t.begun then Some (t.first, t.latest) else None }

-- what it tells, as C sees it
abbrev pub shown : Ticked → TickAnswer
shown (Tick left) = record { left = left; kind = 0 }
shown Quiet = record { left = 0; kind = 1 }
shown Finished = record { left = 0; kind = 2 }
shown Over = record { left = 0; kind = 3 }

-- its interval is 0
abbrev pub no_interval : TickAnswer
no_interval = record { left = 0; kind = 4 }

-- the answer at a time is the countdown's, whatever times it was given
abbrev pub TellsAt : FrameTimer → ℕ → TickAnswer → Type 0
TellsAt t time r = (times : List ℕ) → WasGiven (counting t) times → r ≡ shown (countdown_answer t.total t.interval times time)

-- afterwards it was given that time too
abbrev pub Takes : FrameTimer → ℕ → FrameTimer → Type 0
Takes t time u = (times : List ℕ) → WasGiven (counting t) times → WasGiven (counting u) (times ++ time ∷ [])
