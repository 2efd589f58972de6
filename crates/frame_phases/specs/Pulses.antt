-- When pulses come, and when a frame is wanted.
use Rattle.std.specs.Prelude.{ℕ, ◌+◌, ◌-◌, ◌*◌, ◌/◌, ◌^◌, ◌==◌, ◌||◌, nat_lt, nat_le, min, Bool, true, false, Option, Some, None, List, [], ◌∷◌}
use Rattle.std.specs.List.{list_all, list_any}
use Rattle.frame_phases.specs.declared.entry.FrameEntry.{FrameEntry}
use Rattle.frame_phases.specs.declared.entry.FrameEntry.TheVariants.{Begin}
use Rattle.frame_phases.specs.Frames.{is_pulse, live_callbacks}

-- the least positive multiple of the interval that is greater than t, or the greatest u64 where it is above that
abbrev pub pulse : ℕ → ℕ → ℕ
pulse interval t = min ((t / interval + 1) * interval) (2 ^ 64 - 1)

-- a pulse comes at this moment, where there is one
abbrev pub is_pulse_if_any : ℕ → Option ℕ → Bool
is_pulse_if_any interval None = true
is_pulse_if_any interval (Some t) = is_pulse interval t

-- a pulse at this moment comes after the one with this stamp: it is later, or at the greatest u64, which no pulse is later than
abbrev pub comes_after : ℕ → ℕ → Bool
comes_after stamp t = nat_lt stamp t || t == 2 ^ 64 - 1

-- a pulse at this moment comes after that one, where there is a moment
abbrev pub comes_after_if_any : ℕ → Option ℕ → Bool
comes_after_if_any stamp None = true
comes_after_if_any stamp (Some t) = comes_after stamp t

-- what is kept as the stamp of the latest pulse: 0 before the first one, and then a pulse's moment
abbrev pub is_stamp : ℕ → ℕ → Bool
is_stamp interval t = t == 0 || is_pulse interval t

-- an entry that begins a frame has such a stamp
abbrev pub is_stamped : ℕ → FrameEntry → Bool
is_stamped interval (Begin vsync start time) = is_stamp interval vsync
is_stamped interval _ = true

-- each frame of a record begins with the stamp of a pulse, or with 0
abbrev pub are_stamped : ℕ → List FrameEntry → Bool
are_stamped interval entries = list_all (is_stamped interval) entries

-- after these entries, from the newest to the oldest, a callback is live that is due by this millisecond
abbrev pub wants_by : ℕ → List FrameEntry → Bool
wants_by millis past = list_any (λ c. nat_le c.due millis) (live_callbacks past)

-- at some moment from the latest Begin on, that moment included, such a callback was live, or from the start on where no frame began
unfoldable pub wanted_by : ℕ → List FrameEntry → Bool
wanted_by millis [] = false
wanted_by millis (Begin v s t ∷ past) = wants_by millis past
wanted_by millis (e ∷ past) = wants_by millis (e ∷ past) || wanted_by millis past
