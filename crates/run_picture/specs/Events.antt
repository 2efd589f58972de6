-- The marks as trace events in JSON.
use Rattle.std.specs.Prelude.{◌≡◌, ℕ, ◌+◌, ◌*◌, ◌/◌, List, [], ◌∷◌, ◌++◌, codes, map}
use Rattle.std.specs.Fmt.{decimal}
use Rattle.serde_json.specs.Data.{Data, number, unsigned, string, array, object, Members, no_members, put}
use Rattle.serde_json.specs.View.{items_of}
use Rattle.serde_json.specs.Written.{compact_text}
use Rattle.run_picture.specs.declared.report.Looper.{Looper}
use Rattle.run_picture.specs.declared.report.Report.{Report}
use Rattle.run_picture.specs.declared.report.Subject.{Subject}
use Rattle.run_picture.specs.declared.report.Subject.TheVariants.{What, Callback}
use Rattle.run_picture.specs.declared.mark.MarkKind.{MarkKind}
use Rattle.run_picture.specs.declared.mark.MarkKind.TheVariants.{Dispatch, Frame, Run, Paint}
use Rattle.run_picture.specs.declared.mark.Mark.{Mark}
use Rattle.run_picture.specs.declared.mark.Moment.{Moment}
use Rattle.run_picture.specs.Marks.{marks}
use Rattle.run_picture.specs.Period.{period}
use Rattle.run_picture.specs.Rows.{saturated}

-- a moment in whole microseconds
abbrev pub micros : Moment → ℕ
micros t = saturated (saturated (t.millis * 1000) + t.nanos / 1000)

-- a number as a value
abbrev pub count : ℕ → Data
count n = number (unsigned n)

-- the name of a dispatch
abbrev pub dispatch_name : ℕ → Subject → List ℕ
dispatch_name handler (What w) = codes "handler " ++ decimal handler ++ codes " what " ++ decimal w
dispatch_name handler (Callback c) = codes "handler " ++ decimal handler ++ codes " callback " ++ decimal c

-- the name of a mark's slice, or of its counter
abbrev pub kind_name : ℕ → MarkKind → List ℕ
kind_name lane (Dispatch n handler subject) = dispatch_name handler subject
kind_name lane Frame = codes "frame"
kind_name lane (Run r) = codes "phase " ++ decimal r.phase ++ codes " callback " ++ decimal r.id
kind_name lane (Paint gauge value) = codes "looper " ++ decimal lane ++ codes " gauge " ++ decimal gauge

-- a mark's name, its looper's thread, and its time
unfoldable pub moment_members : Mark → Members
moment_members m =
    put (codes "ts") (count (micros m.time)) (put (codes "tid") (count m.lane)
    (put (codes "pid") (count 1) (put (codes "name") (string (kind_name m.lane m.kind)) no_members)))

-- with a phase, as trace events call their form
abbrev pub phased : List ℕ → Members → Members
phased letter ms = put (codes "ph") (string letter) ms

-- with one argument
abbrev pub argued : List ℕ → Data → Members → Members
argued name d ms = put (codes "args") (object (put name d no_members)) ms

-- a slice that lasts so many microseconds
abbrev pub slice : ℕ → Members → Members
slice lasts ms = put (codes "dur") (count lasts) (phased (codes "X") ms)

-- what an event tells beside: a slice, of a microsecond where a report tells no length, with a message's number where it is a dispatch, or a counter's value
unfoldable pub kind_members : ℕ → MarkKind → Members → Members
kind_members period (Dispatch n handler subject) ms = argued (codes "number") (count n) (slice 1 ms)
kind_members period Frame ms = slice period ms
kind_members period (Run r) ms = slice 1 ms
kind_members period (Paint gauge value) ms = argued (codes "value") (count value) (phased (codes "C") ms)

-- the event of a mark: a slice in its looper's thread, or a counter; a frame lasts a period
unfoldable pub event : ℕ → Mark → Data
event period m = object (kind_members period m.kind (moment_members m))

-- what names something
unfoldable pub naming : List ℕ → List ℕ → Members
naming what name = argued (codes "name") (string name) (phased (codes "M") (put (codes "pid") (count 1) (put (codes "name") (string what) no_members)))

-- the name of the process
unfoldable pub process : Data
process = object (naming (codes "process_name") (codes "dashboard"))

-- the name of a looper's thread
unfoldable pub thread : ℕ → Data
thread lane = object (put (codes "tid") (count lane) (naming (codes "thread_name") (codes "looper " ++ decimal lane)))

-- the names of the threads of loopers that are numbered from this one on
abbrev pub threads_from : ℕ → List Looper → List Data
threads_from lane [] = []
threads_from lane (l ∷ ls) = thread lane ∷ threads_from (lane + 1) ls

-- the names of the process and of the loopers' threads, and one event for each mark of the report, in order
abbrev pub trace : ℕ → Report → List Data
trace period r = process ∷ threads_from 0 r.loopers ++ map (event period) (marks r)

-- the text is the trace of the report as JSON, with the width of a frame in whole microseconds
abbrev pub Traces : Report → List ℕ → Type 0
Traces r text = text ≡ compact_text (array (items_of (trace (period r / 1000) r))) ++ codes "\n"
