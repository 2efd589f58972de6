-- What frames leave in their choreographer.
use Rattle.std.specs.Prelude.{◌≡◌, ◌≤◌, ◌<◌, ℕ, ◌-◌, ◌/◌, Bool, true, false, [], ◌∷◌, ◌++◌, map, Some, None}
use Rattle.frame_phases.specs.declared.entry.FrameEntry.TheVariants.{Begin, Take}
use Rattle.frame_phases.specs.Frames.{live_callbacks, next_phase, last_time, posted_count, taken_callbacks, take_time}
use Rattle.frame_phases.specs.Pulses.{pulse}
use Rattle.frame_phases.specs.State.{Frames, past, next_callback, posted, ran}
use Rattle.value_animator.specs.Run.{due_callback, frame_entries}

-- a frame may begin at this pulse
pub record CanBegin (s : Frames) (p : ℕ) : Type 0 where
  pub interval : 0 < s.interval
  pub scheduled : s.scheduled ≡ true
  pub next : next_phase s.phases (past s) ≡ None
  pub last : last_time (past s) ≤ p

-- a frame has begun, by this pulse and at its moment
abbrev pub begun : Frames → ℕ → Frames
begun s p = record s { entries = s.entries ++ Begin p p p ∷ []; scheduled = false }

-- the phase has taken what was due
abbrev pub taken_at : Frames → ℕ → ℕ → Frames
taken_at s phase now =
    record s { entries = s.entries ++ Take phase now (take_time s.interval s.phases (past s) phase now) ∷ map ran (taken_callbacks (past s) phase now) }

-- the callback is posted once more, to the animation phase and due at once, unless all has ended
abbrev pub posted_again : Frames → Bool → ℕ → Frames
posted_again s true now = s
posted_again s false now = posted s (next_callback s 1 (now / 1000000) 0 None) now

-- the number of the callback that was posted last
abbrev pub last_number : Frames → ℕ
last_number s = posted_count (past s) - 1

-- the callback waits for the frame at this pulse, which is asked for
pub record IsFrameReady (s : Frames) (p : ℕ) : Type 0 where
  pub phases : s.phases ≡ 4
  pub interval : 0 < s.interval
  pub scheduled : s.scheduled ≡ true
  pub asked : s.asked ≡ Some p
  pub next : next_phase s.phases (past s) ≡ None
  pub last : last_time (past s) ≤ p
  pub some_posted : 0 < posted_count (past s)
  pub due : ℕ
  pub is_due : due ≤ p / 1000000
  pub live : live_callbacks (past s) ≡ due_callback (last_number s) due ∷ []

-- what a frame at this pulse leaves
abbrev pub after_frame : Frames → ℕ → Bool → Frames
after_frame s p true = record s { entries = s.entries ++ frame_entries p (last_number s) true; scheduled = false; asked = None }
after_frame s p false =
    record s { entries = s.entries ++ frame_entries p (last_number s) false; scheduled = true; asked = Some (pulse s.interval p) }
