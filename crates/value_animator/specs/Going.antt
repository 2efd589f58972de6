-- What the frames of a run leave, and what the run answers.
use Rattle.std.specs.Prelude.{◌≡◌, ℕ, List, [], ◌∷◌, ◌++◌}
use Rattle.frame_phases.specs.declared.entry.FrameEntry.TheVariants.{Posted}
use Rattle.frame_phases.specs.Frames.{posted_count}
use Rattle.frame_phases.specs.State.{Frames, past}
use Rattle.value_animator.specs.declared.plan.Values.{Values}
use Rattle.value_animator.specs.declared.run.ValuesRan.{ValuesRan}
use Rattle.value_animator.specs.declared.run.ValuesRan.TheVariants as ran_to
use Rattle.value_animator.specs.Framing.{IsFrameReady}
use Rattle.value_animator.specs.Run.{nth_frame_time, frames_text}
use Rattle.value_animator.specs.Run.{IsCount, due_callback, record_entries, IsRunOf}

-- the first callback is posted, and nothing else happened
pub record IsStarted (s : Frames) (period : ℕ) : Type 0 where
  pub looper : s.looper ≡ 0
  pub interval : s.interval ≡ period
  pub ready : IsFrameReady s (nth_frame_time period 0)
  pub posted : posted_count (past s) ≡ 1
  pub entries : s.entries ≡ Posted (due_callback 0 0) ∷ []
  pub sealed : s.sealed ≡ []

-- frames ran until all things had ended, and what they told was written
pub record FramesHaveRun (v : Values) (before after : List ℕ) (s : Frames) : Type 0 where
  pub count : ℕ
  pub counted : IsCount v count
  pub told : after ≡ before ++ frames_text v count
  pub looper : s.looper ≡ 0
  pub interval : s.interval ≡ v.period
  pub phases : s.phases ≡ 4
  pub entries : s.entries ≡ record_entries v.period count
  -- none of them was handed out
  pub sealed : s.sealed ≡ []

-- the run of the values, unless memory ran out
abbrev pub RunsTo : ValuesRan → Values → Type 0
RunsTo (ran_to.Ok bytes frames) v = IsRunOf v bytes.items frames
RunsTo ran_to.NoMemory v = Unit {0}
