-- What holds of every text of values, and of every run of them.
use Rattle.std.specs.Prelude.{◌≡◌, ◌↔◌, ℕ, IsTrue, List, Option, Some, None, Ok, Err}
use Rattle.std.specs.List.{filter_map}
use Rattle.frame_phases.specs.declared.entry.FrameEntry.{FrameEntry}
use Rattle.frame_phases.specs.declared.entry.FrameEntry.TheVariants.{Begin}
use Rattle.frame_phases.specs.declared.entry.FrameRecord.{FrameRecord}
use Rattle.frame_phases.specs.Frames.{lawful}
use Rattle.dash_script.specs.declared.refusal.Cause.{Cause}
use Rattle.line_words.specs.RefusedReading.{read_text}
use Rattle.value_animator.specs.declared.plan.Values.{Values}
use Rattle.value_animator.specs.Plans.{AreValues, IsWritten, values_text}
use Rattle.value_animator.specs.Run.{IsRunOf}
use Rattle.value_animator.specs.Run.{frame_times}
use Rattle.value_animator.specs.Reading.{IsPlanRefusal, IsPlanText, plans}

-- a text is one of values exactly where it is theirs, and they are within the limits
abbrev pub TextsAreTheirs : Type 0
TextsAreTheirs = (b : List ℕ) (v : Values) → IsPlanText b v ↔ IsWritten b v

-- a text is read as values exactly where it is their text
abbrev pub ReadsTexts : Type 0
ReadsTexts = (b : List ℕ) (v : Values) → (read_text plans b ≡ Ok v) ↔ IsPlanText b v

-- a text is read as a refusal exactly where that is the text's refusal
abbrev pub ReadsRefusals : Type 0
ReadsRefusals = (b : List ℕ) (line : ℕ) (c : Cause) → (read_text plans b ≡ Err (line, c)) ↔ IsPlanRefusal b line c

-- the text of values is the text of no others
abbrev pub OneText : Type 0
OneText = (v w : Values) → AreValues v → AreValues w → values_text v ≡ values_text w → v ≡ w

-- the time of a frame that begins
abbrev pub begin_time : FrameEntry → Option ℕ
begin_time (Begin vsync start time) = Some time
begin_time _ = None

-- the times of the frames that begin
abbrev pub begin_times : List FrameEntry → List ℕ
begin_times entries = filter_map begin_time entries

-- the frames of a run begin at the multiples of the period, up to the first at which all things have ended
abbrev pub RunsBegin : Type 0
RunsBegin = (v : Values) (bytes : List ℕ) (frames : FrameRecord) (run : IsRunOf v bytes frames) → begin_times frames.entries ≡ frame_times v.period run.count

-- the frame record of a run is lawful
abbrev pub RunsAreLawful : Type 0
RunsAreLawful = (v : Values) (bytes : List ℕ) (frames : FrameRecord) → AreValues v → IsRunOf v bytes frames
    → IsTrue (lawful frames.interval frames.phases frames.entries)
