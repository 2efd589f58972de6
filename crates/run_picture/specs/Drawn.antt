-- How the marks of a picture stand in its SVG.
use Rattle.std.specs.Prelude.{◌≡◌, ◌≤◌, ◌-◌, ℕ, List, [], ◌∷◌, ◌++◌, codes, length, IsPermutation, Option, Some, None}
use Rattle.std.specs.List.{flat_map, AllByRecursion}
use Rattle.std.specs.Fmt.{decimal}
use Rattle.run_picture.specs.declared.group.Group.{Group}
use Rattle.run_picture.specs.declared.group.Scale.{Scale}
use Rattle.run_picture.specs.declared.report.Report.{Report}
use Rattle.run_picture.specs.declared.shelf.Shelf.{Shelf}
use Rattle.run_picture.specs.declared.view.View.{View}
use Rattle.run_picture.specs.View.{HasEdgesOf, seen_marks}
use Rattle.run_picture.specs.Rows.{IsRowOf, StandsBehind, level}
use Rattle.run_picture.specs.Groups.{IsOfPlace, HasMarks, KeepOrder, GroupsRise, ShowsTime, marks_of}
use Rattle.run_picture.specs.Labels.{entity, group_text}

-- how the element of a group begins
abbrev pub beginning : List ℕ
beginning = codes "<g class=\"mark\" transform=\"translate("

-- an element that stands so many pixels from the left edge of the lanes and from the picture's upper edge
unfoldable pub opening : ℕ → ℕ → List ℕ
opening x y = beginning ++ decimal x ++ codes " " ++ decimal y ++ codes ")\"><title>"

-- no element begins in these bytes
abbrev pub HasNoElement : List ℕ → Type 0
HasNoElement b = (before after : List ℕ) → b ≡ before ++ beginning ++ after → ⊥

-- behind what was there stands the element of a group: at its column, with its text as a title, and a shape
abbrev pub IsElement : Group → ℕ → List ℕ → List ℕ → List ℕ → Type 0
IsElement g y shape before after =
    after ≡ before ++ opening g.place.column y ++ flat_map entity (group_text g) ++ codes "</title>" ++ shape ++ codes "</g>\n"

-- behind what was there stands one element for each group, in order, and nothing else: each in its row, and each row below the one before it
abbrev pub AreElements : ℕ → Option Shelf → List Group → List ℕ → List ℕ → Type 0
AreElements most last [] before after = after ≡ before
AreElements most last (g ∷ gs) before after =
    (s : Shelf) × (shape : List ℕ) × (between : List ℕ) × IsRowOf g s × StandsBehind last s × HasNoElement shape
    × IsElement g (level most s g g.place.row) shape before between × AreElements most (Some s) gs between after

-- the lanes begin 150 pixels from the left edge
abbrev pub lanes : List ℕ
lanes = codes "<g transform=\"translate(150)\">\n"

-- behind a background without elements stands one element for each group of marks; the groups have each mark of the window exactly
-- once, none is without marks, all marks of a group stand at its place, by the scale of the picture, in the order of the report, and the places rise;
-- the picture is as wide as asked for, its edges are those of the window, it is wide enough for all marks, and a place is a pixel where there are
-- at most 4,000; all gauges stand by one greatest value
pub record Draws (v : View) (r : Report) (text : List ℕ) : Type 0 where
  pub scale : Scale
  pub groups : List Group
  pub most : ℕ
  pub background : List ℕ
  pub drawn : List ℕ
  pub marked : IsPermutation (seen_marks v r) (flat_map marks_of groups)
  pub placed : AllByRecursion (IsOfPlace scale) groups
  pub some : AllByRecursion HasMarks groups
  pub rising : GroupsRise groups
  pub ordered : KeepOrder scale (seen_marks v r) (flat_map marks_of groups)
  pub wide : scale.width ≡ v.width - 174
  pub edges : HasEdgesOf v.window scale
  pub shown : AllByRecursion (ShowsTime scale) (seen_marks v r)
  pub fine : length (seen_marks v r) ≤ 4000 → scale.step ≡ 1
  pub bare : HasNoElement background
  pub elements : AreElements most None groups (background ++ lanes) drawn
  pub whole : text ≡ drawn ++ codes "</g>\n</svg>\n"
