-- How long a frame is, by a report that doesn't tell it.
use Rattle.std.specs.Prelude.{ℕ, ◌-◌, min, nat_lt, List, [], ◌∷◌, ◌++◌, Option, Some, None, unwrap_or, if◌then◌else◌}
use Rattle.std.specs.List.{flat_map, fold}
use Rattle.run_picture.specs.declared.report.Frame.{Frame}
use Rattle.run_picture.specs.declared.report.Looper.{Looper}
use Rattle.run_picture.specs.declared.report.Report.{Report}

-- how far a frame at time u stands behind one at time t, where it stands behind it
abbrev pub frame_distance : ℕ → ℕ → List ℕ
frame_distance t u = if nat_lt t u then (u - t) ∷ [] else []

-- how far each frame stands behind the one before it, the first one behind time t
abbrev pub distances_from : ℕ → List Frame → List ℕ
distances_from t [] = []
distances_from t (f ∷ fs) = frame_distance t f.time ++ distances_from f.time fs

-- how far each frame stands behind the one before it
abbrev pub frame_distances : List Frame → List ℕ
frame_distances [] = []
frame_distances (f ∷ fs) = distances_from f.time fs

abbrev pub distances : Looper → List ℕ
distances l = frame_distances l.frames

-- the lesser of two numbers, of which the first may be none
abbrev pub lesser : Option ℕ → ℕ → Option ℕ
lesser None n = Some n
lesser (Some m) n = Some (min m n)

-- the least of the numbers, where there are any
abbrev pub least_number : List ℕ → Option ℕ
least_number ns = fold lesser None ns

-- the width of a frame in nanoseconds: the least distance of a frame from the one before it in its looper, or a sixtieth of a second
abbrev pub period : Report → ℕ
period r = unwrap_or (least_number (flat_map distances r.loopers)) 16666667
