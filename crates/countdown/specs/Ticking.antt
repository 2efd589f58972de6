-- What a countdown tells at each frame.
use Rattle.std.specs.Prelude.{ℕ, ◌-◌, ◌/◌, Bool, true, nat_lt, if◌then◌else◌, List, [], ◌∷◌, ◌++◌}
use Rattle.countdown.specs.declared.timer.Ticked.{Ticked}
use Rattle.countdown.specs.declared.timer.Ticked.TheVariants.{Tick, Quiet, Finished, Over}
use Rattle.countdown.specs.Moments.{elapsed, has_ended}

-- a tick comes at the first time, and where more whole intervals have elapsed than at the time before
abbrev pub ticks : ℕ → List ℕ → ℕ → Bool
ticks interval [] now = true
ticks interval (t ∷ ts) now = nat_lt (elapsed (t ∷ ts) / interval) (now / interval)

-- what is told before the end
abbrev pub told : ℕ → ℕ → List ℕ → ℕ → Ticked
told total interval before now = if ticks interval before now then Tick (total - now) else Quiet

-- what a countdown answers at a time, after the times before
abbrev pub countdown_answer : ℕ → ℕ → List ℕ → ℕ → Ticked
countdown_answer total interval before time =
    if has_ended total before then Over
    else (if has_ended total (before ++ time ∷ []) then Finished
    else told total interval before (elapsed (before ++ time ∷ [])))
