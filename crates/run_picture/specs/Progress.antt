-- A report that is read line by line.
use Rattle.std.specs.Prelude.{ℕ, ◌==◌, Bool, true, false, [], ◌∷◌, ◌++◌, length, Option, Some, None, if◌then◌else◌}
use Rattle.line_words.specs.Words.{words}
use Rattle.line_words.specs.LineReading.{Reading, plain}
use Rattle.line_words.specs.Refusing.{Language}
use Rattle.run_picture.specs.declared.report.Past.{Past as PastData}
use Rattle.run_picture.specs.declared.report.Act.{Act as ActData}
use Rattle.run_picture.specs.declared.report.Run.{Run as RunData}
use Rattle.run_picture.specs.declared.report.Frame.{Frame as FrameData}
use Rattle.run_picture.specs.declared.report.Looper.{Looper as LooperData}
use Rattle.run_picture.specs.declared.report.Report.{Report}
use Rattle.run_picture.specs.declared.line.ReportLine.{ReportLine}
use Rattle.run_picture.specs.declared.line.ReportLine.TheVariants.{Title, Looper, Past, Fates, Act, Frame, Run, End}
use Rattle.run_picture.specs.declared.draft.Part.{Part}
use Rattle.run_picture.specs.declared.draft.Part.TheVariants as part_of
use Rattle.run_picture.specs.declared.draft.Draft.{Draft}
use Rattle.run_picture.specs.Lines.{line_of}

-- a looper of which nothing is told
abbrev pub blank : LooperData
blank = record { past = []; fates = record { accepted = 0; dispatched = 0; removed = 0; dropped = 0; stranded = 0; queued = 0 }; acts = []; frames = [] }

-- a frame in which nothing ran
abbrev pub opened : ℕ → FrameData
opened t = record { time = t; runs = [] }

-- nothing is read yet
abbrev pub start : Draft
start = record { part = part_of.Start; edition = 1; loopers = []; current = blank; frame = opened 0 }

-- the looper has all its lines
abbrev pub closed : Draft → Draft
closed d = record d { part = part_of.Open; loopers = d.loopers ++ d.current ∷ []; current = blank }

-- looper l with one more frame
abbrev pub framed : LooperData → FrameData → LooperData
framed l f = record l { frames = l.frames ++ f ∷ [] }

-- the frame has all its lines, and the next one has this time
abbrev pub shut : ℕ → Draft → Draft
shut t d = record d { current = framed d.current d.frame; frame = opened t }

-- looper l with one more line of its history
abbrev pub with_past : LooperData → PastData → LooperData
with_past l p = record l { past = l.past ++ p ∷ [] }

-- looper l with one more line of its journal
abbrev pub with_act : LooperData → ActData → LooperData
with_act l a = record l { acts = l.acts ++ a ∷ [] }

-- frame f with one more callback
abbrev pub with_run : FrameData → RunData → FrameData
with_run f r = record f { runs = f.runs ++ r ∷ [] }

-- what the first line makes of a draft
abbrev pub after_start : Draft → ReportLine → Option Draft
after_start d (Title e) = Some (record d { part = part_of.Open; edition = e })
after_start d _ = None

-- what a line makes of a draft between its loopers
abbrev pub after_open : Draft → ReportLine → Option Draft
after_open d (Looper n) = if n == length d.loopers then Some (record d { part = part_of.Past }) else None
after_open d End = Some (record d { part = part_of.End })
after_open d _ = None

-- what a line makes of a draft in the history of a looper
abbrev pub after_past : Draft → ReportLine → Option Draft
after_past d (Past p) = Some (record d { current = with_past d.current p })
after_past d (Fates f) = Some (record d { part = part_of.Acts; current = record d.current { fates = f } })
after_past d _ = None

-- what a line makes of a draft in the journal of a looper
abbrev pub after_acts : Draft → ReportLine → Option Draft
after_acts d (Looper n) = after_open (closed d) (Looper n)
after_acts d (Act a) = Some (record d { current = with_act d.current a })
after_acts d (Frame t) = Some (record d { part = part_of.Frames; frame = opened t })
after_acts d End = after_open (closed d) End
after_acts d _ = None

-- what a line makes of a draft in a frame of a looper
abbrev pub after_frames : Draft → ReportLine → Option Draft
after_frames d (Looper n) = after_open (closed (shut 0 d)) (Looper n)
after_frames d (Frame t) = Some (shut t d)
after_frames d (Run r) = Some (record d { frame = with_run d.frame r })
after_frames d End = after_open (closed (shut 0 d)) End
after_frames d _ = None

-- what a line makes of a draft in this part
abbrev pub after_part : Part → Draft → ReportLine → Option Draft
after_part part_of.Start d l = after_start d l
after_part part_of.Open d l = after_open d l
after_part part_of.Past d l = after_past d l
after_part part_of.Acts d l = after_acts d l
after_part part_of.Frames d l = after_frames d l
after_part part_of.End d l = None

-- the draft with one more line, where the line may come next
unfoldable pub next : Draft → ReportLine → Option Draft
next d l = after_part d.part d l

abbrev pub is_report_end : Part → Bool
is_report_end part_of.End = true
is_report_end _ = false

abbrev pub report_of : Draft → Report
report_of d = record { edition = d.edition; loopers = d.loopers }

-- how the lines of a report are read
abbrev pub reading : Reading ReportLine Draft Report
reading = record { start = start; line_of = λ bytes. line_of (words bytes); next = next; is_end = λ d. is_report_end d.part; whole = report_of }

-- the language of reports
abbrev pub reports : Language ReportLine Draft Report (Unit {0})
reports = plain reading
