-- What the loopers of a run leave, told by their journals and their kits.
use Rattle.std.specs.Prelude.{◌≡◌, ◌<◌, ◌+◌, ℕ, true, false, List, length, slice_index_or}
use Rattle.loop_model.specs.declared.journal.Journal.{Journal}
use Rattle.dash_script.specs.declared.script.Script.{Script}
use Rattle.run_model.specs.Loopers.{LooperState}
use Rattle.dash_hall.specs.declared.kit.Kit.{Kit}
use Rattle.dash_loopers.specs.declared.looper.StageLooper.{StageLooper}
use Rattle.dash_loopers.specs.Loopers.{is_given_up, HasDisposedLast}
use Rattle.dash_loopers.specs.Played.{StandsBetweenRounds, StandsBetweenLoops, HasLeft}

-- wherever the looper stood, in lockstep or by a clock, its journal and its kit tell so; and unless memory ran out, it disposed of its queue by its last
-- call, if at all
pub record HasGiven (s : Script) (number : ℕ) (l : StageLooper) (j : Journal) (kit : Kit) : Type 0 where
  pub left : (a : LooperState) → StandsBetweenRounds s l a → HasLeft true s number j kit a
  pub left_by : (a : LooperState) → StandsBetweenLoops s l a → HasLeft false s number j kit a
  pub disposes : is_given_up l.last ≡ false → HasDisposedLast s number kit

-- so it is with each of these loopers, whose kit comes behind the threads'
abbrev pub HaveGiven : Script → List StageLooper → List Journal → List Kit → Type 0
HaveGiven s ls js kits = (k : ℕ) (l : StageLooper) (j : Journal) (d : Kit) → k < length js
    → HasGiven s k (slice_index_or ls k l) (slice_index_or js k j) (slice_index_or kits (s.threads + k) d)
