-- What each step of the controller asks for and leaves, in lockstep and by a clock.
use Rattle.std.specs.Prelude.{◌≡◌, ◌≤◌, ◌+◌, ℕ, Bool, true, false, Option, Some}
use Rattle.atomic_table.specs.Seated.{TableId}
use Rattle.shared_queue.specs.Known.{Shared, IsOf}
use Rattle.dash_script.specs.declared.script.Script.{Script}
use Rattle.looper_run.specs.Holding.{Sender}
use Rattle.choreographer.specs.Known.{SharedFrames, Pass, IsPassOf}
use Rattle.run_model.specs.Control.{ends_halted, IsPulseTime}
use Rattle.dash_hall.specs.declared.hall.Hall.{Hall}
use Rattle.dash_stage.specs.declared.control.Controller.{Controller}
use Rattle.dash_stage.specs.Controllers.{IsController, IsControllerIn, CanTurn, TurnsAlone, CallsNone, LooksFor, OtherPassesStay}
use Rattle.dash_stage.specs.Controllers.{IsMoving, HasReached, IsQuitting, HasClosedIn, AtPoster, calls_on, time_in}
use Rattle.dash_stage.specs.Playing.{IsStuck, AreStuck}
use Rattle.dash_stage.specs.Timeliness.{whole_on, AreBy, TurnsOn, EachTurnsOn, IsNoEntry, IsHaltEntry, MovesTo, MovesNot, HaveReachedTime, HasReachedTime}

-- the controller may move the time of the queue at this place on to this one
pub record CanMove (s : Script) (hall : Hall) (place now : ℕ) (c : Controller) : Type 0 where
  pub at : CanTurn true s hall place c
  pub within : now ≤ s.end
  pub moving : IsMoving s c

-- it may quit the queue at this place, as those below
pub record CanQuit (s : Script) (hall : Hall) (place : ℕ) (c : Controller) : Type 0 where
  pub at : CanTurn true s hall place c
  pub quitting : IsQuitting s place c

-- so it may, and the queue's time has come to the end
pub record CanQuitAtEnd (s : Script) (hall : Hall) (place : ℕ) (c : Controller) : Type 0 where
  pub at : CanTurn true s hall place c
  pub quitting : IsQuitting s place c
  pub time : (d : Sender) → s.end ≤ time_in (calls_on c place d)

-- this poster, the last of its queue, may have it hand its entries out
pub record CanHandOut (p : Sender) (q : Shared TableId) : Type 0 where
  pub poster : IsOf p q
  pub last : p.sender + 1 ≡ q.constants.setting.senders

-- this pass, the last of its choreographer, may have it hand its entries out
pub record CanHandOutFrames (p : Pass) (c : SharedFrames) : Type 0 where
  pub pass : IsPassOf p c
  pub last : p.number + 1 ≡ c.constants.passes
  pub seals : c.constants.seals ≡ true

-- it is the script's controller still, and has called nothing
pub record StaysIdle (lockstep : Bool) (s : Script) (hall : Hall) (before after : Controller) : Type 0 where
  pub controller : IsControllerIn lockstep s hall after
  pub none : CallsNone before after

-- so it is, by turns on the queue at this place alone
pub record TurnsIdle (lockstep : Bool) (s : Script) (hall : Hall) (place : ℕ) (before after : Controller) : Type 0 where
  pub alone : TurnsAlone lockstep s hall place before after
  pub none : CallsNone before after
  pub here : AtPoster (TurnsOn IsNoEntry) place before after

-- it is the script's controller still, and its posters are as before
pub record KeepsPosters (s : Script) (hall : Hall) (before after : Controller) : Type 0 where
  pub controller : IsController s hall after
  pub posters : after.kit.posters ≡ before.kit.posters

-- it found this pulse of a looper, in milliseconds rounded up, or none; it is the script's controller still, and its posters and other passes are as before
pub record HasLookedFor (s : Script) (hall : Hall) (looper : ℕ) (before after : Controller) (found : Option ℕ) : Type 0 where
  pub controller : IsController s hall after
  pub posters : after.kit.posters ≡ before.kit.posters
  pub pulse : (time : ℕ) → found ≡ Some time → IsPulseTime s.period time
  pub look : LooksFor looper before after found
  pub elsewhere : OtherPassesStay looper before after

-- it has only moved the time so far, main's time did not fall, and it moved no queue past this time
pub record KeepsPace (s : Script) (now : ℕ) (before after : Controller) : Type 0 where
  pub moving : IsMoving s after
  pub reached : HasReached now before → HasReached now after
  pub by : (t : ℕ) → now ≤ t → AreBy t before → AreBy t after

-- by its turns there this queue has come to the time, unless a message is due
pub record HasAdvanced (s : Script) (now place : ℕ) (before after : Controller) (drained : Bool) : Type 0 where
  pub here : AtPoster (TurnsOn (MovesTo now)) place before after
  pub reached : drained ≡ true → place ≡ 0 → HasReached now after
  pub come : drained ≡ true → HasReachedTime s now place after
  pub stuck : drained ≡ false → (d : Sender) → IsStuck s now (whole_on after place d)

-- so have all queues
pub record HaveAdvanced (s : Script) (now : ℕ) (before after : Controller) (drained : Bool) : Type 0 where
  pub turns : EachTurnsOn (MovesTo now) before after
  pub reached : drained ≡ true → HasReached now after
  pub come : drained ≡ true → HaveReachedTime s now after
  pub stuck : drained ≡ false → AreStuck s now s.loopers after

-- the queue at this place may have been quit, too, by turns that moved no time
pub record QuitsAt (s : Script) (place : ℕ) (before after : Controller) : Type 0 where
  pub quitting : IsQuitting s (place + 1) after
  pub here : AtPoster (TurnsOn MovesNot) place before after

-- main was halted, with which its history ends
pub record HasHaltedMain (lockstep : Bool) (s : Script) (c : Controller) : Type 0 where
  pub closed : HasClosedIn lockstep s c
  pub halted : (d : Sender) → ends_halted (whole_on c 0 d) ≡ true

-- it tried to halt main: that was done, or it may be tried again
pub record TriesToHalt (lockstep : Bool) (MayTry : Controller → Type 0) (s : Script) (hall : Hall) (before after : Controller) (halted : Bool) : Type 0 where
  pub controller : IsControllerIn lockstep s hall after
  pub turns : EachTurnsOn IsHaltEntry before after
  pub going : halted ≡ false → MayTry after
  pub closed : halted ≡ true → HasHaltedMain lockstep s after
