-- Marks that fall on one place of the picture are one group.
use Rattle.std.specs.Prelude.{◌≡◌, ℕ, ◌<◌, ◌≤◌, ◌+◌, ◌-◌, ◌*◌, ◌/◌, ◌%◌, ◌^◌, min, max, List, [], ◌∷◌, ◌++◌, length, map}
use Rattle.std.specs.List.{AllByRecursion, flat_map}
use Rattle.std.specs.List.Sorted.{IsStableByKey, IsStrictlySortedBy}
use Rattle.std.specs.declared.cmp.Ordering.{Ordering}
use Rattle.std.specs.Ordering.{nat_cmp}
use Rattle.std.specs.Cmp.Lexicographic.{slice_cmp}
use Rattle.run_picture.specs.declared.mark.MarkKind.{MarkKind}
use Rattle.run_picture.specs.declared.mark.MarkKind.TheVariants as kind_of
use Rattle.run_picture.specs.declared.mark.Mark.{Mark}
use Rattle.run_picture.specs.declared.mark.Moment.{Moment}
use Rattle.run_picture.specs.declared.group.Row.{Row}
use Rattle.run_picture.specs.declared.group.Row.TheVariants.{Handler, Frames, Runs, Gauge}
use Rattle.run_picture.specs.declared.group.Place.{Place}
use Rattle.run_picture.specs.declared.group.Scale.{Scale}
use Rattle.run_picture.specs.declared.group.Group.{Group}

-- the row of a mark
abbrev pub mark_row : MarkKind → Row
mark_row (kind_of.Dispatch number handler subject) = Handler handler
mark_row kind_of.Frame = Frames
mark_row (kind_of.Run r) = Runs
mark_row (kind_of.Paint gauge value) = Gauge gauge

-- a moment in nanoseconds
abbrev pub nanos : Moment → ℕ
nanos t = t.millis * 1000000 + t.nanos

-- how many pixels a moment lies from the left edge, at most the width of the lanes
abbrev pub pixels : Scale → ℕ → ℕ
pixels s t = min (min ((t - s.first) * s.width) (2 ^ 128 - 1) / max s.span 1) s.width

-- a callback stands behind its moment by its phase
abbrev pub shift : Scale → MarkKind → ℕ
shift s (kind_of.Dispatch number handler subject) = 0
shift s kind_of.Frame = 0
shift s (kind_of.Run r) = min r.phase 4 * s.slot
shift s (kind_of.Paint gauge value) = 0

-- how many pixels are left of a mark, which begins a place of the scale
abbrev pub column : Scale → Mark → ℕ
column s m = let x = min (pixels s (nanos m.time) + shift s m.kind) s.width in x - x % max s.step 1

-- where a mark stands: in its looper's lane, the row of its kind, and at its time
abbrev pub place : Scale → Mark → Place
place s m = record { lane = m.lane; row = mark_row m.kind; column = column s m }

abbrev pub marks_of : Group → List Mark
marks_of g = g.marks

-- the mark stands at this place
abbrev pub StandsAt : Scale → Place → Mark → Type 0
StandsAt s p m = p ≡ place s m

-- all marks of the group stand at its place
abbrev pub IsOfPlace : Scale → Group → Type 0
IsOfPlace s g = AllByRecursion (StandsAt s g.place) g.marks

-- the group has a mark
abbrev pub HasMarks : Group → Type 0
HasMarks g = 0 < length g.marks

-- the kind of a row, from above
abbrev pub rank : Row → ℕ
rank (Handler h) = 0
rank Frames = 1
rank Runs = 2
rank (Gauge g) = 3

-- the number of a row among those of its kind
abbrev pub number : Row → ℕ
number (Handler h) = h
number Frames = 0
number Runs = 0
number (Gauge g) = g

-- what orders places: the lane, the row from above, and the pixels from the left
abbrev pub key : Place → List ℕ
key p = p.lane ∷ rank p.row ∷ number p.row ∷ p.column ∷ []

-- places are ordered by the first number in which they differ
abbrev pub order : Place → Place → Ordering
order p q = slice_cmp nat_cmp (key p) (key q)

abbrev pub group_place : Group → Place
group_place g = g.place

-- each group stands before all behind it, so that no two stand at one place
abbrev pub GroupsRise : List Group → Type 0
GroupsRise gs = IsStrictlySortedBy order (map group_place gs)

-- marks of one place stand in the order in which they stood
abbrev pub KeepOrder : Scale → List Mark → List Mark → Type 0
KeepOrder s before after = IsStableByKey (place s) order before after

-- a mark's time lies between these, in nanoseconds
abbrev pub IsBetween : ℕ → ℕ → Mark → Type 0
IsBetween first last m = (first ≤ nanos m.time) × (nanos m.time ≤ last)

-- the width of the picture shows the mark's time
abbrev pub ShowsTime : Scale → Mark → Type 0
ShowsTime s m = IsBetween s.first (s.first + s.span) m

-- groups into which marks are cut, in order: each has some marks, all of them at its place, and the places rise
pub record AreCut (s : Scale) (ms : List Mark) (gs : List Group) : Type 0 where
  pub all : flat_map marks_of gs ≡ ms
  pub places : AllByRecursion (IsOfPlace s) gs
  pub marked : AllByRecursion HasMarks gs
  pub rising : GroupsRise gs

-- group g with one mark more
abbrev pub with_mark : Group → Mark → Group
with_mark g m = record g { marks = g.marks ++ m ∷ [] }

-- a place without marks yet
abbrev pub begun : Place → Group
begun p = record { place = p; marks = [] }
