-- What the marks of a picture say.
use Rattle.std.specs.Prelude.{ℕ, ◌/◌, ◌%◌, ◌==◌, nat_lt, List, [], ◌∷◌, ◌++◌, codes, length, if◌then◌else◌}
use Rattle.std.specs.Fmt.{decimal}
use Rattle.run_picture.specs.declared.report.Subject.{Subject}
use Rattle.run_picture.specs.declared.report.Subject.TheVariants.{What, Callback}
use Rattle.run_picture.specs.declared.mark.MarkKind.{MarkKind}
use Rattle.run_picture.specs.declared.mark.MarkKind.TheVariants.{Dispatch, Frame, Run, Paint}
use Rattle.run_picture.specs.declared.mark.Mark.{Mark}
use Rattle.run_picture.specs.declared.mark.Moment.{Moment}
use Rattle.run_picture.specs.declared.group.Group.{Group}

-- a point and three digits
abbrev pub fraction : ℕ → List ℕ
fraction micros = codes "." ++ decimal (micros / 100 % 10) ++ decimal (micros / 10 % 10) ++ decimal (micros % 10)

-- milliseconds, with microseconds where there are any
abbrev pub time_text : Moment → List ℕ
time_text t = decimal t.millis ++ (if t.nanos / 1000 == 0 then [] else fraction (t.nanos / 1000)) ++ codes " ms"

abbrev pub subject_text : Subject → List ℕ
subject_text (What w) = codes "what " ++ decimal w
subject_text (Callback c) = codes "callback " ++ decimal c

-- what a mark shows
abbrev pub kind_text : MarkKind → List ℕ
kind_text (Dispatch number handler subject) = codes "message " ++ decimal number ++ codes ", handler " ++ decimal handler ++ codes ", " ++ subject_text subject
kind_text Frame = codes "frame"
kind_text (Run r) = codes "callback " ++ decimal r.id ++ codes " in phase " ++ decimal r.phase
kind_text (Paint gauge value) = codes "gauge " ++ decimal gauge ++ codes " at " ++ decimal value

-- how many marks there are, where there is more than one
abbrev pub more_text : ℕ → List ℕ
more_text n = if nat_lt 1 n then codes " (" ++ decimal n ++ codes " marks here)" else []

-- the time of a mark and what it shows
abbrev pub mark_text : Mark → List ℕ
mark_text m = time_text m.time ++ codes ": " ++ kind_text m.kind

-- the text of the first mark
abbrev pub first_text : List Mark → List ℕ
first_text [] = []
first_text (m ∷ ms) = mark_text m

-- what a group says
abbrev pub group_text : Group → List ℕ
group_text g = first_text g.marks ++ more_text (length g.marks)

-- a byte of text in an SVG: what would be markup is written as an entity
abbrev pub entity : ℕ → List ℕ
entity b =
    if b == 38 then codes "&amp;" else if b == 60 then codes "&lt;" else if b == 62 then codes "&gt;" else if b == 34 then codes "&quot;" else b ∷ []
