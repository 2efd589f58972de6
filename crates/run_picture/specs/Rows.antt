-- How high the groups of a picture stand.
use Rattle.std.specs.Prelude.{◌≡◌, ◌≤◌, ℕ, ◌+◌, ◌-◌, ◌*◌, ◌/◌, ◌^◌, min, max, List, [], ◌∷◌, Option, Some, None}
use Rattle.run_picture.specs.declared.mark.MarkKind.{MarkKind}
use Rattle.run_picture.specs.declared.mark.MarkKind.TheVariants as kind_of
use Rattle.run_picture.specs.declared.mark.Mark.{Mark}
use Rattle.run_picture.specs.declared.group.Group.{Group}
use Rattle.run_picture.specs.declared.group.Row.{Row}
use Rattle.run_picture.specs.declared.group.Row.TheVariants.{Handler, Frames, Runs, Gauge}
use Rattle.run_picture.specs.declared.shelf.Shelf.{Shelf}

-- a number, or the greatest of 64 bits
abbrev pub saturated : ℕ → ℕ
saturated n = min n (2 ^ 64 - 1)

-- callbacks stand in the row of their frames
abbrev pub shared : Row → Row
shared (Handler h) = Handler h
shared Frames = Frames
shared Runs = Frames
shared (Gauge g) = Gauge g

-- this is the row of the group
abbrev pub IsRowOf : Group → Shelf → Type 0
IsRowOf g s = (s.lane ≡ g.place.lane) × (s.row ≡ shared g.place.row)

abbrev pub IsSameRow : Shelf → Shelf → Type 0
IsSameRow s t = (s.lane ≡ t.lane) × (s.row ≡ t.row)

-- behind the row of the group before it a group stands in that same row, or in one that begins at least 22 pixels below it
abbrev pub StandsBehind : Option Shelf → Shelf → Type 0
StandsBehind None t = Unit {0}
StandsBehind (Some s) t = (IsSameRow s t → s.top ≡ t.top) × ((IsSameRow s t → ⊥) → saturated (s.top + 22) ≤ t.top)

-- the value that a mark shows
abbrev pub value : MarkKind → ℕ
value (kind_of.Dispatch number handler subject) = 0
value kind_of.Frame = 0
value (kind_of.Run r) = 0
value (kind_of.Paint gauge v) = v

-- the value of the last of the marks, or else this one
abbrev pub last_painted : ℕ → List Mark → ℕ
last_painted v [] = v
last_painted v (m ∷ ms) = last_painted (value m.kind) ms

-- how many pixels a value stands below its row's upper edge, where this is the greatest value that a row shows
abbrev pub depth : ℕ → ℕ → ℕ
depth most v = 40 - v * 30 / max most 1

-- how far a group stands from the picture's upper edge: at its row's edge, a gauge's by the value that is painted there last
abbrev pub level : ℕ → Shelf → Group → Row → ℕ
level most s g (Handler h) = s.top
level most s g Frames = s.top
level most s g Runs = s.top
level most s g (Gauge n) = saturated (s.top + depth most (last_painted 0 g.marks))
