-- The text of a report, and where a text that is none goes wrong.
use Rattle.std.specs.Prelude.{◌≡◌, ◌⊎◌, ℕ, ◌+◌, List, [], ◌∷◌, ◌++◌, codes, map}
use Rattle.std.specs.List.{flat_map, AllByRecursion}
use Rattle.line_words.specs.Words.{line}
use Rattle.line_words.specs.Written.{WrittenWord, Fixed, Short, Long, FitsWord, spelled_words}
use Rattle.line_words.specs.LeastBad.{IsLeastBad}
use Rattle.run_picture.specs.declared.report.Subject.{Subject}
use Rattle.run_picture.specs.declared.report.Subject.TheVariants.{What, Callback}
use Rattle.run_picture.specs.declared.report.Past.{Past as PastData}
use Rattle.run_picture.specs.declared.report.Past.TheVariants.{Dispatch, Refused, NotPosted, NotAllowed, AlreadyQuit}
use Rattle.run_picture.specs.declared.report.Fates.{Fates as FatesData}
use Rattle.run_picture.specs.declared.report.Act.{Act as ActData}
use Rattle.run_picture.specs.declared.report.Act.TheVariants.{Idle, Event, Paint}
use Rattle.run_picture.specs.declared.report.Frame.{Frame as FrameData}
use Rattle.run_picture.specs.declared.report.Looper.{Looper as LooperData}
use Rattle.run_picture.specs.declared.report.Report.{Report}
use Rattle.run_picture.specs.declared.line.ReportLine.{ReportLine}
use Rattle.run_picture.specs.declared.line.ReportLine.TheVariants.{Title, Looper, Past, Fates, Act, Frame, Run, End}

-- ---- the words of a line

-- a message by its what, or by its callback
abbrev pub subject_words : Subject → List WrittenWord
subject_words (What w) = Short w ∷ []
subject_words (Callback c) = Fixed (codes "callback") ∷ Long c ∷ []

abbrev pub past_words : PastData → List WrittenWord
past_words (Dispatch now number handler subject) = Long now ∷ Fixed (codes "dispatch") ∷ Long number ∷ Short handler ∷ subject_words subject
past_words (Refused handler subject place) = Fixed (codes "refused") ∷ Short handler ∷ subject_words subject ++ Fixed (codes "quit") ∷ Long place ∷ []
past_words (NotPosted token) = Fixed (codes "not-posted") ∷ Long token ∷ []
past_words NotAllowed = Fixed (codes "not-allowed") ∷ []
past_words (AlreadyQuit place) = Fixed (codes "already-quit") ∷ Long place ∷ []

abbrev pub fates_words : FatesData → List WrittenWord
fates_words f =
    Fixed (codes "fates") ∷ Fixed (codes "accepted") ∷ Long f.accepted ∷ Fixed (codes "dispatched") ∷ Long f.dispatched
    ∷ Fixed (codes "removed") ∷ Long f.removed ∷ Fixed (codes "dropped") ∷ Long f.dropped ∷ Fixed (codes "stranded") ∷ Long f.stranded
    ∷ Fixed (codes "queued") ∷ Long f.queued ∷ []

abbrev pub act_words : ActData → List WrittenWord
act_words (Idle id) = Fixed (codes "idle") ∷ Short id ∷ []
act_words (Event fd events) = Fixed (codes "event") ∷ Short fd ∷ Short events ∷ []
act_words (Paint gauge value) = Fixed (codes "paint") ∷ Short gauge ∷ Short value ∷ []

abbrev pub report_line_words : ReportLine → List WrittenWord
report_line_words (Title edition) = Fixed (codes "report") ∷ Short edition ∷ []
report_line_words (Looper number) = Fixed (codes "looper") ∷ Long number ∷ []
report_line_words (Past p) = past_words p
report_line_words (Fates f) = fates_words f
report_line_words (Act a) = act_words a
report_line_words (Frame time) = Fixed (codes "frame") ∷ Long time ∷ []
report_line_words (Run r) = Fixed (codes "run") ∷ Short r.phase ∷ Long r.id ∷ []
report_line_words End = Fixed (codes "end") ∷ []

-- ---- the limits of the numbers

-- the accepted posts are the sum of the others
abbrev pub AddsUp : FatesData → Type 0
AddsUp f = f.accepted ≡ f.dispatched + f.removed + f.dropped + f.stranded + f.queued

-- what a line's numbers say beyond their widths: a report is of one of two editions, and its fates add up
abbrev pub IsConsistent : ReportLine → Type 0
IsConsistent (Title edition) = (edition ≡ 1) ⊎ (edition ≡ 2)
IsConsistent (Fates f) = AddsUp f
IsConsistent _ = Unit {0}

-- each number of the line is within the width of its place, and the line's numbers agree
abbrev pub FitsReportLine : ReportLine → Type 0
FitsReportLine l = AllByRecursion FitsWord (report_line_words l) × IsConsistent l

-- ---- the lines of a report

-- the line of a frame, and one for each callback that ran in it
abbrev pub read_frame_lines : FrameData → List ReportLine
read_frame_lines f = Frame f.time ∷ map Run f.runs

-- the lines of the looper with this number
abbrev pub read_looper_lines : ℕ → LooperData → List ReportLine
read_looper_lines n l = Looper n ∷ map Past l.past ++ Fates l.fates ∷ map Act l.acts ++ flat_map read_frame_lines l.frames

-- the lines of loopers that are numbered from n on
abbrev pub read_loopers_lines : ℕ → List LooperData → List ReportLine
read_loopers_lines n [] = []
read_loopers_lines n (l ∷ ls) = read_looper_lines n l ++ read_loopers_lines (n + 1) ls

abbrev pub read_report_lines : Report → List ReportLine
read_report_lines r = (Title r.edition ∷ read_loopers_lines 0 r.loopers) ++ End ∷ []

-- how a line is written
unfoldable pub report_line_text : ReportLine → List ℕ
report_line_text l = line (spelled_words (report_line_words l))

-- the text of a report
abbrev pub read_report_text : Report → List ℕ
read_report_text r = flat_map report_line_text (read_report_lines r)

-- b is the text of r, whose numbers are within their limits
abbrev pub IsReportText : List ℕ → Report → Type 0
IsReportText b r = (b ≡ read_report_text r) × AllByRecursion FitsReportLine (read_report_lines r)

-- this is the least bad line of a text that is the text of no report
abbrev pub IsLeastBadOfReport : List ℕ → ℕ → Type 0
IsLeastBadOfReport b k = IsLeastBad IsReportText b k
