-- What a looper's code works with, and what it keeps.
use Rattle.std.specs.Prelude.{◌≡◌, ℕ, ◌<◌, ◌+◌, ◌⊎◌, map, slice_index_or}
use Rattle.dash_script.specs.declared.script.Script.{Script}
use Rattle.looper_run.specs.Holding.{Workplace, Sender}
use Rattle.dash_hall.specs.declared.hall.Hall.{Hall}
use Rattle.dash_loopers.specs.declared.player.Parts.{Parts}
use Rattle.dash_loopers.specs.declared.looper.StageLooper.{StageLooper}
use Rattle.dash_hall.specs.Kits.{badge_of, frame_badge_of}
use Rattle.dash_loopers.specs.Loopers.{ArePartsOf, IsPlaceOf, IsLooperOf, MayAwait}

-- whose code it is: the looper of this number in the hall of the script, in the round at this moment, and the looper as the round began
pub record Owner : Type 0 where
  pub script : Script
  pub hall : Hall
  pub number : ℕ
  pub now : ℕ
  pub began : StageLooper

-- the code works at the queue of its looper and with the hall's pool, and these are the looper's parts
pub record ServesAt (s : Script) (hall : Hall) (number : ℕ) (parts : Parts) (w : Workplace) : Type 0 where
  pub looper : IsLooperOf s hall number
  pub place : IsPlaceOf hall number w
  pub are_parts : ArePartsOf s hall number parts

-- the same posters and the same pass; and where the looper awaits a pulse's frame afterwards its pass knows of it, if so it was before
pub record AreSameParts (before after : Parts) : Type 0 where
  pub others : map badge_of after.others.items ≡ map badge_of before.others.items
  pub frames : frame_badge_of after.frames ≡ frame_badge_of before.frames
  pub awaits : MayAwait before → MayAwait after

-- the first of the other posters, which is that of main's queue, rang its bell once
abbrev pub RingsMain : Parts → Parts → Type 0
RingsMain before after = (d : Sender) → (slice_index_or after.others.items 0 d).view.rung ≡ (slice_index_or before.others.items 0 d).view.rung + 1

-- the place that one of a list has once the one at n is taken out
abbrev pub PlaceWithout : ℕ → ℕ → ℕ → Type 0
PlaceWithout n place j = ((place < n) × (j ≡ place)) ⊎ ((n < place) × (place ≡ j + 1))
