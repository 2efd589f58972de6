-- What a picture shows of a report.
use Rattle.std.specs.Prelude.{◌≡◌, ◌*◌, ◌-◌, nat_lt, Bool, true, false, List, Option, Some, None, if◌then◌else◌}
use Rattle.std.specs.List.{filter}
use Rattle.run_picture.specs.declared.mark.Mark.{Mark}
use Rattle.run_picture.specs.declared.report.Report.{Report}
use Rattle.run_picture.specs.declared.group.Scale.{Scale}
use Rattle.run_picture.specs.declared.view.Window.{Window}
use Rattle.run_picture.specs.declared.view.View.{View}
use Rattle.run_picture.specs.Marks.{marks}
use Rattle.run_picture.specs.Groups.{nanos}

-- a mark's time lies in the window: from its first millisecond on, and before its last one
abbrev pub lies_in : Window → Mark → Bool
lies_in w m = if nat_lt (nanos m.time) (w.from * 1000000) then false else nat_lt (nanos m.time) (w.to * 1000000)

-- where there is no window, each mark is seen
abbrev pub is_seen : Option Window → Mark → Bool
is_seen None m = true
is_seen (Some w) m = lies_in w m

abbrev pub IsSeen : Option Window → Mark → Type 0
IsSeen w m = is_seen w m ≡ true

-- the marks of a picture: those of the report whose time lies in its window, in order
abbrev pub seen_marks : View → Report → List Mark
seen_marks v r = filter (is_seen v.window) (marks r)

-- the edges of the picture are those of its window, where it has one
abbrev pub HasEdgesOf : Option Window → Scale → Type 0
HasEdgesOf None s = Unit {0}
HasEdgesOf (Some w) s = (s.first ≡ w.from * 1000000) × (s.span ≡ (w.to - w.from) * 1000000)
