-- What is told over frames, how it is printed, and what a run of values is.
use Rattle.std.specs.Prelude.{◌≡◌, ◌<◌, ◌+◌, ◌*◌, ◌/◌, ℕ, zero, suc, Bool, true, false, List, [], ◌∷◌, ◌++◌, map, None, codes}
use Rattle.std.specs.List.{flat_map, range_with_len, enumerate_from, list_all}
use Rattle.std.specs.Fmt.{decimal}
pub use Rattle.line_words.specs.Words.{LineWords, line as line_text}
use Rattle.countdown.specs.Moments.{has_ended}
use Rattle.countdown.specs.Ticking.{countdown_answer}
use Rattle.countdown.specs.declared.timer.Ticked.{Ticked}
use Rattle.countdown.specs.declared.timer.Ticked.TheVariants as ticked
use Rattle.animator.specs.declared.values.Valued.{Valued}
use Rattle.animator.specs.declared.values.Valued.TheVariants as valued
use Rattle.value_animator.specs.declared.plan.Thing.{Thing}
use Rattle.value_animator.specs.declared.plan.Thing.TheVariants as thing_of
use Rattle.value_animator.specs.declared.plan.Values.{Values}
use Rattle.animator.specs.Valuing.{animator_answer, end_of}
use Rattle.frame_phases.specs.declared.entry.Callback.{Callback}
use Rattle.frame_phases.specs.declared.entry.FrameEntry.{FrameEntry}
use Rattle.frame_phases.specs.declared.entry.FrameEntry.TheVariants.{Posted, Begin, Take, Ran}
use Rattle.frame_phases.specs.declared.entry.FrameRecord.{FrameRecord}

-- ---- what a thing tells

-- when a thing ends, in milliseconds from the first frame
abbrev pub thing_end : Thing → ℕ
thing_end (thing_of.Animator plan) = end_of plan
thing_end (thing_of.Countdown total interval) = total

-- the words that an animator's answer tells, where it tells any
abbrev pub value_told : Valued → List LineWords
value_told (valued.Value v) = (codes "value" ∷ decimal v ∷ []) ∷ []
value_told (valued.End v) = (codes "end" ∷ decimal v ∷ []) ∷ []
value_told valued.Over = []

-- the words that a countdown's answer tells, where it tells any
abbrev pub tick_told : Ticked → List LineWords
tick_told (ticked.Tick left) = (codes "tick" ∷ decimal left ∷ []) ∷ []
tick_told ticked.Finished = (codes "finished" ∷ []) ∷ []
tick_told _ = []

-- the words that a thing tells at a time, after the times before
abbrev pub thing_words : Thing → List ℕ → ℕ → List LineWords
thing_words (thing_of.Animator plan) before time = value_told (animator_answer plan before time)
thing_words (thing_of.Countdown total interval) before time = tick_told (countdown_answer total interval before time)

-- ---- the lines

-- the lines of a thing, with its number, at a time after the times before
abbrev pub thing_lines : List ℕ → ℕ → ℕ × Thing → List LineWords
thing_lines before time (number, thing) = map (λ ws. decimal time ∷ decimal number ∷ ws) (thing_words thing before time)

-- the time of the frame that has so many frames before it
abbrev pub nth_frame_time : ℕ → ℕ → ℕ
nth_frame_time period k = (k + 1) * period

-- the times of the first n frames
abbrev pub frame_times : ℕ → ℕ → List ℕ
frame_times period n = map (nth_frame_time period) (range_with_len 0 n)

-- the lines of a frame, by rising number of the things
abbrev pub told_lines : Values → ℕ → List LineWords
told_lines v k = flat_map (thing_lines (frame_times v.period k) (nth_frame_time v.period k)) (enumerate_from 0 v.things)

-- the lines of n frames
abbrev pub frames_text : Values → ℕ → List ℕ
frames_text v n = flat_map (λ k. flat_map line_text (told_lines v k)) (range_with_len 0 n)

-- the text of n frames
abbrev pub told_text : Values → ℕ → List ℕ
told_text v n = line_text (codes "values" ∷ codes "1" ∷ []) ++ frames_text v n ++ line_text (codes "end" ∷ [])

-- all things have ended by these times
abbrev pub all_ended : List Thing → List ℕ → Bool
all_ended things times = list_all (λ t. has_ended (thing_end t) times) things

-- ---- the run

-- all things have ended after so many frames, and not after fewer
pub record IsCount (v : Values) (n : ℕ) : Type 0 where
  pub ended : all_ended v.things (frame_times v.period n) ≡ true
  pub not_before : (m : ℕ) → m < n → all_ended v.things (frame_times v.period m) ≡ false

-- the callback of this number, which is due at this millisecond
abbrev pub due_callback : ℕ → ℕ → Callback
due_callback number due = record { number = number; phase = 1; due = due; id = 0; token = None }

-- the posting in a frame of the callback after this one, unless all has ended
abbrev pub again : ℕ → ℕ → Bool → List FrameEntry
again p number true = []
again p number false = Posted (due_callback (number + 1) (p / 1000000)) ∷ []

-- the entries of a frame at this pulse, in which the callback of this number runs
abbrev pub frame_entries : ℕ → ℕ → Bool → List FrameEntry
frame_entries p number ended =
    Begin p p p ∷ Take 0 p p ∷ Take 1 p p ∷ Ran number ∷ again p number ended ++ Take 2 p p ∷ Take 3 p p ∷ []

-- the entries of n frames that each post the next callback
abbrev pub going_entries : ℕ → ℕ → List FrameEntry
going_entries period n = flat_map (λ k. frame_entries (nth_frame_time period k) k false) (range_with_len 0 n)

-- the entries of a record with n frames: the first posting, and the frames, of which the last posts nothing
abbrev pub record_entries : ℕ → ℕ → List FrameEntry
record_entries period zero = []
record_entries period (suc n) =
    (Posted (due_callback 0 0) ∷ going_entries period n) ++ frame_entries (nth_frame_time period n) n true

-- the text and the frame record are those of a run of the values
pub record IsRunOf (v : Values) (bytes : List ℕ) (frames : FrameRecord) : Type 0 where
  pub count : ℕ
  pub counted : IsCount v count
  pub told : bytes ≡ told_text v count
  pub looper : frames.looper ≡ 0
  pub interval : frames.interval ≡ v.period
  pub phases : frames.phases ≡ 4
  pub entries : frames.entries ≡ record_entries v.period count
