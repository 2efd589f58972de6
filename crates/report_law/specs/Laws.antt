-- The text of a run's report is read as what the run tells.
use Rattle.std.specs.Prelude.{◌≡◌, ℕ, ◌+◌, ◌^◌, Bool, nat_lt, List, [], ◌∷◌, length}
use Rattle.std.specs.List.{AllByRecursion}
use Rattle.loop_model.specs.declared.record.QueueRecord.{QueueRecord}
use Rattle.frame_phases.specs.declared.entry.FrameRecord.{FrameRecord}
use Rattle.loop_model.specs.Fates.{fates}
use Rattle.line_words.specs.Written.{FitsWord}
use Rattle.dash_script.specs.Reading.{HasText}
use Rattle.run_model.specs.Planned.{history_of}
use Rattle.run_model.specs.declared.report.Report.{Report as RunReport}
use Rattle.run_model.specs.Text as printed
use Rattle.run_model.specs.Moments.{Mode}
use Rattle.run_model.specs.Run.{IsRun}
use Rattle.dash_script.specs.declared.script.Script.{Script}
use Rattle.run_picture.specs.declared.line.ReportLine.{ReportLine}
use Rattle.run_picture.specs.declared.line.ReportLine.TheVariants.{Fates}
use Rattle.run_picture.specs.Text.{FitsReportLine, IsReportText, fates_words, read_report_lines}
use Rattle.report_law.specs.Seen.{posted_in, runs_first, seen}

-- the queues are those of loopers that are numbered from n on
abbrev pub AreCounted : ℕ → List QueueRecord → Type 0
AreCounted n [] = Unit {0}
AreCounted n (q ∷ qs) = (q.looper ≡ n) × AreCounted (n + 1) qs

-- no callback ran before the first frame
abbrev pub IsFramed : FrameRecord → Type 0
IsFramed f = runs_first (posted_in f.entries) f.entries ≡ []

-- each number of a line is within the limits of its place, whatever the numbers add up to
abbrev pub HasLimits : ReportLine → Type 0
HasLimits (Fates f) = AllByRecursion FitsWord (fates_words f)
HasLimits l = FitsReportLine l

-- the text of the report of a run is the text of what the run tells
abbrev pub PrintedIsRead : Type 0
PrintedIsRead =
    (r : RunReport) → AreCounted 0 r.queues → AllByRecursion IsFramed r.frames → AllByRecursion HasLimits (read_report_lines (seen r))
    → IsReportText (printed.report_text r) (seen r)

-- a number of 64 bits can count the posts that the queue accepted
abbrev pub is_countable : QueueRecord → Bool
is_countable q = nat_lt (length (fates (history_of q))) (2 ^ 64)

-- the text of the report of a run of a script that has a text is the text of what the run tells
abbrev pub ARunIsRead : RunReport → Type 0
ARunIsRead r = (m : Mode) (s : Script) → IsRun m s r → HasText s → IsReportText (printed.report_text r) (seen r)
