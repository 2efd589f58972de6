-- What holds of every loop that asks.
use Rattle.std.specs.Prelude.{◌≡◌, ◌≤◌, ◌<◌, ◌+◌, ◌*◌, ◌⊎◌, ℕ, true, false}
use Rattle.loop_next_c.specs.declared.situation.Situation.{Situation}
use Rattle.loop_next_c.specs.Actions.{waits, wait, next_action, afterwards, run_events, deliver_vsync, run_frame, look_at_queue}
use Rattle.loop_next_c.specs.Waits.{never, wake, rounded_up}

-- the loop waits for this moment: the queue's time, or the pulse
abbrev pub WaitsFor : Situation → ℕ → Type 0
WaitsFor s moment = ((s.look ≡ waits) × (moment ≡ s.time * 1000000)) ⊎ ((s.has_pulse ≡ true) × (moment ≡ s.pulse))

-- a loop waits only where nothing is left to be done, and what it waits for comes later than now
abbrev pub WaitsForLaterAlone : Type 0
WaitsForLaterAlone = (s : Situation) → next_action s ≡ wait
    → (s.events ≡ false) × (s.frame_owed ≡ false) × ((moment : ℕ) → WaitsFor s moment → s.moment < moment)

-- no wait goes on past a moment that the loop waits for, and it ends at one of these or never
abbrev pub WakesAtTheFirst : Type 0
WakesAtTheFirst = (s : Situation)
    → ((moment : ℕ) → WaitsFor s moment → wake s ≤ moment) × ((wake s ≡ never) ⊎ WaitsFor s (wake s))

-- so many milliseconds are no less than the nanoseconds, and less than a millisecond more
abbrev pub RoundsUp : Type 0
RoundsUp = (n : ℕ) → (n ≤ rounded_up n * 1000000) × (rounded_up n * 1000000 < n + 1000000)

-- a look is acted on once: behind each action the loop does what came meanwhile, or looks anew, whatever else it then finds
abbrev pub LooksAnew : Type 0
LooksAnew = (s t : Situation) → t.look ≡ (afterwards s).look
    → (next_action t ≡ run_events) ⊎ (next_action t ≡ deliver_vsync) ⊎ (next_action t ≡ run_frame) ⊎ (next_action t ≡ look_at_queue)
