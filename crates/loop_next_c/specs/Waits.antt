-- Until when a message loop waits.
use Rattle.std.specs.Prelude.{ℕ, ◌==◌, ◌*◌, ◌+◌, ◌/◌, min, if◌then◌else◌}
use Rattle.loop_next_c.specs.declared.situation.Situation.{Situation}
use Rattle.loop_next_c.specs.Actions.{waits, wait}

-- the moment that the loop's clock never shows: 2 to the 64 less 1
abbrev pub never : ℕ
never = 18446744073709551615

-- when the time comes that the queue waits for
abbrev pub queue_wake : Situation → ℕ
queue_wake s = if s.look == waits then min (s.time * 1000000) never else never

-- when the pulse comes that is asked for
abbrev pub pulse_wake : Situation → ℕ
pulse_wake s = if s.has_pulse then s.pulse else never

-- a wait ends at the earlier of the two
abbrev pub wake : Situation → ℕ
wake s = min (queue_wake s) (pulse_wake s)

-- until when an action waits; only a wait does
abbrev pub until : ℕ → Situation → ℕ
until action s = if action == wait then wake s else 0

-- the most milliseconds of one wait
abbrev pub longest : ℕ
longest = 2147483647

-- so many nanoseconds in whole milliseconds, rounded up
abbrev pub rounded_up : ℕ → ℕ
rounded_up nanoseconds = (nanoseconds + 999999) / 1000000

-- how many milliseconds a wait may take at once
abbrev pub milliseconds : ℕ → ℕ
milliseconds nanoseconds = min (rounded_up nanoseconds) longest
