-- How a looper begins with its kit, and what it leaves of it at its end.
use Rattle.std.specs.Prelude.{◌≡◌, ◌+◌, ℕ, true, false, []}
use Rattle.loop_model.specs.declared.journal.Journal.{Journal}
use Rattle.looper_run.specs.Round.{is_ended}
use Rattle.dash_script.specs.declared.script.Script.{Script}
use Rattle.run_model.specs.Loopers.{LooperState, first_looper}
use Rattle.dash_hall.specs.declared.hall.Hall.{Hall}
use Rattle.dash_hall.specs.declared.kit.Kit.{Kit}
use Rattle.dash_hall.specs.Hearing.{HasHeardAll}
use Rattle.dash_hall.specs.Kits.{IsKitOf, HasSeenOver}
use Rattle.dash_loopers.specs.declared.looper.StageLooper.{StageLooper}
use Rattle.dash_loopers.specs.Loopers.{IsLooper, posters_of, WaitsForNothing, HasDoneNothing, OfItsPass, HasTold, HasDisposedLast, is_given_up}
use Rattle.dash_loopers.specs.Played.{StandsBetweenRounds, StandsBetweenLoops, HasLeft}

-- the looper of this number, made of this kit, which has done nothing and heard of nothing
pub record IsNewLooper (s : Script) (hall : Hall) (number : ℕ) (kit : Kit) (l : StageLooper) : Type 0 where
  pub looper : IsLooper s hall l
  pub number_is : l.number ≡ number
  pub posters : posters_of l ≡ kit.posters.items
  pub waits : WaitsForNothing l.last
  pub begun : StandsBetweenRounds s l (first_looper s)
  pub nothing : HasDoneNothing kit l
  pub unheard : OfItsPass (HasHeardAll []) l

-- the journal is the looper's, and the kit is that of its sender, with its posters and its pass of the pool
pub record HandsOutKit (s : Script) (hall : Hall) (l : StageLooper) (j : Journal) (kit : Kit) : Type 0 where
  pub number : j.looper ≡ l.number
  pub journal : j ≡ l.looper.held.journal
  pub pass : kit.pass ≡ l.looper.held.pass
  pub is_kit : IsKitOf s hall (s.threads + l.number) kit
  pub posters : kit.posters.items ≡ posters_of l

-- by the journal and the kit: unless memory ran out, the looper told what it dispatched and disposed of its queue last; one that ended has seen its queue
-- over; and wherever it stood, it is left there
pub record IsToldBy (s : Script) (l : StageLooper) (j : Journal) (kit : Kit) : Type 0 where
  pub told : is_given_up l.last ≡ false → HasTold s l.number j kit
  pub disposes : is_given_up l.last ≡ false → HasDisposedLast s l.number kit
  pub over : is_ended l.last ≡ true → HasSeenOver s l.number kit
  pub left : (a : LooperState) → StandsBetweenRounds s l a → HasLeft true s l.number j kit a
  pub left_by : (a : LooperState) → StandsBetweenLoops s l a → HasLeft false s l.number j kit a
