-- How the controller ends the queues of a run that is given up.
use Rattle.std.specs.Prelude.{◌≡◌, ◌<◌, ◌≤◌, ◌+◌, ℕ, Bool, true, false, List, length, slice_index_or}
use Rattle.dash_script.specs.declared.script.Script.{Script}
use Rattle.looper_run.specs.Holding.{Sender}
use Rattle.dash_hall.specs.declared.hall.Hall.{Hall}
use Rattle.dash_hall.specs.Growth.{own, QuitsOf}
use Rattle.dash_loopers.specs.declared.looper.StageLooper.{StageLooper}
use Rattle.dash_loopers.specs.Loopers.{HasRunInLockstep}
use Rattle.dash_stage.specs.declared.control.Controller.{Controller}
use Rattle.dash_stage.specs.Controllers.{IsControllerIn, TurnsAlone, AtPoster}

-- each of the first n queues but main's was quit plainly at this time by one call, which may have been refused
abbrev pub AreQuitBelow : ℕ → ℕ → Controller → Controller → Type 0
AreQuitBelow n now before after =
    (q : ℕ) (d : Sender) → 0 < q → q < n → QuitsOf (slice_index_or before.kit.posters.items q d) (slice_index_or after.kit.posters.items q d) false now

-- so it is with each queue but main's
abbrev pub AreQuit : ℕ → Controller → Controller → Type 0
AreQuit now before after = AreQuitBelow (length before.kit.posters.items) now before after

-- the bell of this looper was rung once, and no call was made on its queue
pub record IsRung (q : ℕ) (before after : Controller) : Type 0 where
  pub rung : (d : Sender) → (slice_index_or after.kit.posters.items q d).view.rung ≡ (slice_index_or before.kit.posters.items q d).view.rung + 1
  pub none : (d : Sender) → own (slice_index_or after.kit.posters.items q d) ≡ own (slice_index_or before.kit.posters.items q d)

-- so it was with main
abbrev pub IsNudged : Controller → Controller → Type 0
IsNudged before after = IsRung 0 before after

-- so it was with each of the first n loopers
abbrev pub AreRung : ℕ → Controller → Controller → Type 0
AreRung n before after = (q : ℕ) → q < n → IsRung q before after

-- how often the controller has rung the bell of this looper
abbrev pub rings : Controller → ℕ → Sender → ℕ
rings c q d = (slice_index_or c.kit.posters.items q d).view.rung

-- no bell was rung
abbrev pub RingsNone : Controller → Controller → Type 0
RingsNone before after = (q : ℕ) (d : Sender) → rings after q d ≡ rings before q d

-- each bell has been rung as often as before, or more often
abbrev pub RingsNoLess : Controller → Controller → Type 0
RingsNoLess before after = (q : ℕ) (d : Sender) → rings before q d ≤ rings after q d

-- the bell of each of the first n loopers was rung, once or more often
abbrev pub HaveBeenRung : ℕ → Controller → Controller → Type 0
HaveBeenRung n before after = (q : ℕ) (d : Sender) → q < n → rings before q d < rings after q d

-- each looper but the main one has run a round at this moment
abbrev pub OthersHaveRun : Script → ℕ → List StageLooper → List StageLooper → Type 0
OthersHaveRun s now before after =
    (k : ℕ) (d : StageLooper) → 0 < k → k < length before → HasRunInLockstep s now (slice_index_or before k d) (slice_index_or after k d)

-- a queue was quit at this moment by one call, which may have been refused, unless memory ran out; no bell was rung
pub record QuitsNow (safe : Bool) (now : ℕ) (s : Script) (hall : Hall) (place : ℕ) (before after : Controller) (done : Bool) : Type 0 where
  pub alone : TurnsAlone hall.lockstep s hall place before after
  pub here : done ≡ true → AtPoster (λ p p'. QuitsOf p p' safe now) place before after
  pub bells : RingsNone before after

-- so it was, safely, unless its looper has ended
pub record QuitsUnless (has_ended : Bool) (now : ℕ) (s : Script) (hall : Hall) (place : ℕ) (before after : Controller) (done : Bool) : Type 0 where
  pub alone : TurnsAlone hall.lockstep s hall place before after
  pub left : has_ended ≡ true → after ≡ before
  pub made : done ≡ true → has_ended ≡ false → AtPoster (λ p p'. QuitsOf p p' true now) place before after
  pub bells : RingsNone before after

-- main was nudged, and each other queue quit plainly at this time, unless memory ran out
pub record GivesRunUp (now : ℕ) (s : Script) (hall : Hall) (before after : Controller) (done : Bool) : Type 0 where
  pub controller : IsControllerIn hall.lockstep s hall after
  pub nudged : IsNudged before after
  pub bells : RingsNoLess before after
  pub quit : done ≡ true → AreQuit now before after
