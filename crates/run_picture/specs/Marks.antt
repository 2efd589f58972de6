-- The marks of a report's picture.
use Rattle.std.specs.Prelude.{◌≡◌, ℕ, ◌+◌, ◌/◌, ◌%◌, ◌==◌, nat_lt, Bool, false, List, [], ◌∷◌, ◌++◌, Option, Some, None, slice_index_or, if◌then◌else◌}
use Rattle.std.specs.List.{flat_map, list_any}
use Rattle.run_picture.specs.declared.report.Past.{Past as PastData}
use Rattle.run_picture.specs.declared.report.Past.TheVariants as past_of
use Rattle.run_picture.specs.declared.report.Act.{Act as ActData}
use Rattle.run_picture.specs.declared.report.Act.TheVariants as act_of
use Rattle.run_picture.specs.declared.report.Run.{Run as RunData}
use Rattle.run_picture.specs.declared.report.Frame.{Frame as FrameData}
use Rattle.run_picture.specs.declared.report.Looper.{Looper}
use Rattle.run_picture.specs.declared.report.Report.{Report}
use Rattle.run_picture.specs.declared.mark.MarkKind.{MarkKind}
use Rattle.run_picture.specs.declared.mark.MarkKind.TheVariants.{Dispatch, Frame, Run, Paint}
use Rattle.run_picture.specs.declared.mark.Moment.{Moment}
use Rattle.run_picture.specs.declared.mark.Mark.{Mark}
use Rattle.run_picture.specs.declared.mark.Painted.{Painted}

-- a dispatch stands at its millisecond
abbrev pub past_marks : ℕ → PastData → List Mark
past_marks lane (past_of.Dispatch now number handler subject) =
    record { lane = lane; time = record { millis = now; nanos = 0 }; kind = Dispatch number handler subject } ∷ []
past_marks lane (past_of.Refused handler subject place) = []
past_marks lane (past_of.NotPosted token) = []
past_marks lane past_of.NotAllowed = []
past_marks lane (past_of.AlreadyQuit place) = []

-- the moment of a time in nanoseconds
abbrev pub split_moment : ℕ → Moment
split_moment t = record { millis = t / 1000000; nanos = t % 1000000 }

-- a mark at a time in nanoseconds
abbrev pub frame_mark : ℕ → ℕ → MarkKind → Mark
frame_mark lane t kind = record { lane = lane; time = split_moment t; kind = kind }

abbrev pub run_mark : ℕ → ℕ → RunData → List Mark
run_mark lane t r = frame_mark lane t (Run r) ∷ []

-- a frame stands at its frame time, and so do the callbacks that ran in it
abbrev pub frame_marks : ℕ → FrameData → List Mark
frame_marks lane f = frame_mark lane f.time Frame ∷ flat_map (run_mark lane f.time) f.runs

-- a traversal ran in the frame
abbrev pub is_painting : FrameData → Bool
is_painting f = list_any (λ r. r.id == 1000016) f.runs

abbrev pub painting_times : FrameData → List ℕ
painting_times f = if is_painting f then f.time ∷ [] else []

-- before the first paint
abbrev pub no_paint : Painted
no_paint = record { time = 0; place = 0; last = None }

-- a gauge above this one goes on with the paints of one traversal
abbrev pub rises : Option ℕ → ℕ → Bool
rises None gauge = false
rises (Some last) gauge = nat_lt last gauge

-- the paints of one traversal have rising gauges; another gauge is painted at the next time, or the last one where none is left
abbrev pub joined : Painted → List ℕ → ℕ → Painted
joined g times gauge =
    if rises g.last gauge then record g { last = Some gauge } else record { time = slice_index_or times g.place g.time; place = g.place + 1; last = Some gauge }

-- the paints of a journal, at the frame times of the frames whose traversal ran
abbrev pub paint_marks : ℕ → List ℕ → Painted → List ActData → List Mark
paint_marks lane times g [] = []
paint_marks lane times g (act_of.Idle id ∷ acts) = paint_marks lane times g acts
paint_marks lane times g (act_of.Event fd events ∷ acts) = paint_marks lane times g acts
paint_marks lane times g (act_of.Paint gauge value ∷ acts) =
    frame_mark lane (joined g times gauge).time (Paint gauge value) ∷ paint_marks lane times (joined g times gauge) acts

-- behind the marks that were there, those of an act and of the acts behind it are those that are there now and those of the acts behind it
abbrev pub MarksGoOn : ℕ → List ℕ → Painted → Painted → ActData → List Mark → List Mark → Type 0
MarksGoOn lane times g h act before after = (acts : List ActData) → before ++ paint_marks lane times g (act ∷ acts) ≡ after ++ paint_marks lane times h acts

-- the marks of one looper
abbrev pub looper_marks : ℕ → Looper → List Mark
looper_marks lane l =
    flat_map (past_marks lane) l.past ++ flat_map (frame_marks lane) l.frames ++ paint_marks lane (flat_map painting_times l.frames) no_paint l.acts

-- the marks of loopers whose lanes begin at this one
abbrev pub marks_from : ℕ → List Looper → List Mark
marks_from lane [] = []
marks_from lane (l ∷ ls) = looper_marks lane l ++ marks_from (lane + 1) ls

-- the marks of a report
abbrev pub marks : Report → List Mark
marks r = marks_from 0 r.loopers
