-- What is known of a stage at the end of a run.
use Rattle.std.specs.Prelude.{◌≡◌, ◌<◌, ℕ, false, List, []}
use Rattle.dash_script.specs.declared.script.Block.{Block}
use Rattle.dash_script.specs.declared.script.Script.{Script}
use Rattle.run_model.specs.Moments.{Mode}
use Rattle.dash_hall.specs.Kits.{AreUnseen}
use Rattle.dash_threads.specs.Threads.{AreByClock}
use Rattle.dash_stage.specs.declared.stage.Stage.{Stage}
use Rattle.dash_stage.specs.Asking.{AskInTurn}
use Rattle.dash_stage.specs.BehindThreads.{CallsBehindThreads}
use Rattle.dash_stage.specs.ByClock.{HaveLooped}
use Rattle.dash_stage.specs.Controllers.{HasClosed, HasClosedIn, CallsNothingOn, IsClosingBy}
use Rattle.dash_stage.specs.Playing.{HaveBegun, EachStandsBetweenLoops}
use Rattle.dash_stage.specs.Sharing.{OfSenders, HaveSeenTheSame}
use Rattle.dash_stage.specs.Stages.{IsStageIn, IsStage, HaveRunBy, OthersHaveEnded, LoopersGoOn}
use Rattle.dash_stage.specs.Steps.{StageAt, RestsAt, IsUnderWay}
use Rattle.dash_stage.specs.Timeliness.{HasHaltedLast}

-- it is the script's in this mode, all senders have seen the same of each queue, and in free mode the moments of their calls are the clock's, or the queue's
-- time
pub record HasEndedBy (m : Mode) (s : Script) (st : Stage) : Type 0 where
  pub stage : IsStageIn m.lockstep s st
  pub same : HaveSeenTheSame st
  pub clocked : OfSenders (AreByClock m) st

-- a run in lockstep has begun: nothing was run, no sender has called or seen anything, nothing was asked for, and the time is 0
pub record HasBegunInLockstep (s : Script) (st : Stage) : Type 0 where
  pub way : IsUnderWay s st
  pub rests : RestsAt s [] st
  pub zero : st.time ≡ 0
  pub unseen : AreUnseen st.controller.kit.posters.items
  pub turn : AskInTurn s [] 0 st

-- in lockstep the stage stands at these blocks, the queues were closed, main last, and the loopers but main have ended
pub record HasEndedAt (s : Script) (past : List Block) (st : Stage) : Type 0 where
  pub stage : IsStage s st
  pub at : StageAt s past st
  pub closed : HasClosed s st.controller
  pub ended : OthersHaveEnded st.loopers.items
  pub on : LoopersGoOn st.loopers.items
  pub halted : HasHaltedLast s st

-- at whichever blocks the stage rested, it has ended there
abbrev pub EndsThere : Script → Stage → Stage → Type 0
EndsThere s before after = (past : List Block) → RestsAt s past before → HasEndedAt s past after

-- it has ended at the end of the script
abbrev pub HasEndedInLockstep : Script → Stage → Type 0
HasEndedInLockstep s st = HasEndedAt s s.blocks st

-- a run by a clock has begun: no thread has run a line, no looper has acted, the controller has called nothing, and no moment was asked for
pub record HasBegunByClock (m : Mode) (s : Script) (st : Stage) : Type 0 where
  pub some : 0 < s.loopers
  pub stage : IsStageIn false s st
  pub begun : HaveRunBy m s [] st.threads.items
  pub loopers : HaveBegun s st.loopers.items
  pub clocked : OfSenders (AreByClock m) st
  pub none : (q : ℕ) → CallsNothingOn st.controller q

-- the threads have run all blocks at moments of the clock, the loopers have looped and played, those but main have ended, and the controller's calls stand
-- behind the threads'
pub record HasRunByClock (m : Mode) (s : Script) (st : Stage) : Type 0 where
  pub clocked : OfSenders (AreByClock m) st
  pub run : HaveRunBy m s s.blocks st.threads.items
  pub ended : OthersHaveEnded st.loopers.items
  pub on : LoopersGoOn st.loopers.items
  pub looped : HaveLooped m s st.loopers.items
  pub played : EachStandsBetweenLoops s st.loopers.items
  pub behind : CallsBehindThreads s st.threads.items st.controller

-- all senders have seen the same, the queues but main were quit, and main is still to be halted
pub record IsClosingByClock (m : Mode) (s : Script) (st : Stage) : Type 0 where
  pub some : 0 < s.loopers
  pub stage : IsStageIn false s st
  pub same : HaveSeenTheSame st
  pub ran : HasRunByClock m s st
  pub closing : IsClosingBy s st.controller

-- and main was halted
pub record HasEndedByClock (m : Mode) (s : Script) (st : Stage) : Type 0 where
  pub free : m.lockstep ≡ false
  pub out : HasEndedBy m s st
  pub ran : HasRunByClock m s st
  pub closed : HasClosedIn m.lockstep s st.controller
  pub halted : HasHaltedLast s st
