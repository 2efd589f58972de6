-- The senders of a script before the first event.
use Rattle.std.specs.Prelude.{◌≡◌, ℕ, Bool, List, []}
use Rattle.dash_script.specs.declared.script.Script.{Script}
use Rattle.run_model.specs.Moments.{Mode}
use Rattle.dash_hall.specs.declared.hall.Hall.{Hall}
use Rattle.dash_hall.specs.declared.kit.Kit.{Kit}
use Rattle.dash_hall.specs.Kits.{AreUnseen, AreUnusedKits}
use Rattle.dash_threads.specs.declared.thread.PostingThread.{PostingThread}
use Rattle.dash_loopers.specs.declared.looper.StageLooper.{StageLooper}
use Rattle.dash_stage.specs.declared.stage.Stage.{Stage}
use Rattle.dash_stage.specs.Asking.{AskInTurn}
use Rattle.dash_stage.specs.Controllers.{IsMoving}
use Rattle.dash_stage.specs.Playing.{HaveBegun, IsInStep}
use Rattle.dash_stage.specs.Sharing.{OfThreads, OfPasses, OfLoopers, OfSenders, AreUnheard, HaveHeardNothing}
use Rattle.dash_stage.specs.Stages.{AreKitsFrom, AreThreads, AreLoopers, HaveRunBy, IsStageIn}
use Rattle.dash_stage.specs.Timeliness.{AreBy, AreTimelyUpTo, AreRested, WaitForNothing}

-- the kits of the senders from n on, of which nobody has used one
pub record AreUnusedFrom (s : Script) (hall : Hall) (n : ℕ) (kits : List Kit) : Type 0 where
  pub from : AreKitsFrom s hall n kits
  pub unused : AreUnusedKits kits

-- the threads of the script, which have run no line and have seen and heard nothing
pub record AreOpenedThreads (s : Script) (hall : Hall) (ts : List PostingThread) : Type 0 where
  pub threads : AreThreads s hall ts
  pub run : (m : Mode) → HaveRunBy m s [] ts
  pub unseen : OfThreads AreUnseen ts
  pub unheard : OfPasses AreUnheard ts

-- the loopers of the script, which have not acted and have seen and heard nothing
pub record AreOpenedLoopers (s : Script) (hall : Hall) (ls : List StageLooper) : Type 0 where
  pub loopers : AreLoopers s hall ls
  pub begun : HaveBegun s ls
  pub waits : WaitForNothing ls
  pub unseen : OfLoopers AreUnseen ls
  pub unheard : HaveHeardNothing ls

-- a stage in this mode has been opened: no thread has run a line, no looper has acted, nobody has called, asked for or seen anything, and the time is 0
pub record HasOpened (lockstep : Bool) (s : Script) (st : Stage) : Type 0 where
  pub stage : IsStageIn lockstep s st
  pub run : (m : Mode) → HaveRunBy m s [] st.threads.items
  pub loopers : HaveBegun s st.loopers.items
  pub moving : IsMoving s st.controller
  pub by : AreBy st.time st.controller
  pub zero : st.time ≡ 0
  pub timely : AreTimelyUpTo s [] st
  pub rested : AreRested s st
  pub step : IsInStep s st
  pub unseen : OfSenders AreUnseen st
  pub turn : AskInTurn s [] 0 st
