-- How far a run in lockstep has come, and what each step of a stage has to find and leaves.
use Rattle.std.specs.Prelude.{◌≡◌, ◌<◌, ◌≤◌, ◌++◌, ◌∷◌, [], List, ℕ, max, Bool, true, false, Option, Some, None, slice_index_or}
use mathlib.Core.List.{IsPrefix}
use Rattle.dash_script.specs.declared.script.Block.{Block}
use Rattle.dash_script.specs.declared.script.Script.{Script}
use Rattle.run_model.specs.FrameRecords.{in_block}
use Rattle.run_model.specs.Control.{is_planned_time}
use Rattle.looper_run.specs.Round.{is_ended}
use Rattle.dash_hall.specs.Hearing.{AtEach, seen_by}
use Rattle.dash_loopers.specs.declared.looper.StageLooper.{StageLooper}
use Rattle.dash_stage.specs.declared.side.Turn.{Turn}
use Rattle.dash_stage.specs.declared.side.Turn.TheVariants.{All, Others}
use Rattle.dash_stage.specs.declared.stage.Stage.{Stage}
use Rattle.dash_stage.specs.Asking.{AskInTurn, AskUpToNow}
use Rattle.dash_stage.specs.Controllers.{IsMoving, HasReached, IsClosing, CallsNone, OtherPassesStay}
use Rattle.dash_stage.specs.GivingUp.{AreQuit, IsNudged, OthersHaveRun}
use Rattle.dash_stage.specs.Moves.{AreMoved, MayBeMovedTo, IsAwaited}
use Rattle.dash_stage.specs.Playing.{IsInStep, AreAtBlockIfSound, LiesAhead}
use Rattle.dash_stage.specs.Sharing.{HaveSeenTheSame}
use Rattle.dash_stage.specs.Stages.{IsStage, HaveRunInLockstep}
use Rattle.dash_stage.specs.Timeliness.{AreSound, AreTimelyUpTo, AreBy, AreRested, AreDue, NotLater, NotLaterThanWait, LooksUnlessEnded}
use Rattle.dash_stage.specs.Turns.{HaveTakenTurns, AtTurn, IsTheSame}

-- the threads have run these blocks, the histories are timely up to them, the stage is in step, the queues were moved together, and the choreographers asked in
-- turn
pub record StageAt (s : Script) (past : List Block) (st : Stage) : Type 0 where
  pub run : HaveRunInLockstep s past st.threads.items
  pub timely : AreTimelyUpTo s past st
  pub step : IsInStep s st
  pub moves : AreMoved s st.controller
  pub asks : AskUpToNow s past st

-- and the loopers have come to rest
pub record RestsAt (s : Script) (past : List Block) (st : Stage) : Type 0 where
  pub at : StageAt s past st
  pub rested : AreRested s st

-- this time lies ahead of the stage, which has asked in turn before a block at this time
pub record TimeLiesAhead (s : Script) (past : List Block) (time : ℕ) (st : Stage) : Type 0 where
  pub ahead : AreSound s st.controller → LiesAhead time st
  pub turn : AskInTurn s past (in_block time) st

-- the stage stands at the start of a block at this time
pub record BeginsBlock (s : Script) (past : List Block) (time : ℕ) (st : Stage) : Type 0 where
  pub queues : AreAtBlockIfSound s time st
  pub turn : AskInTurn s past (in_block time) st

-- where each queue's history is one that it may have, so it was before
abbrev pub WereSound : Script → Stage → Stage → Type 0
WereSound s before after = AreSound s after.controller → AreSound s before.controller

-- the stage stands at these blocks still
pub record StillAt (s : Script) (past : List Block) (before after : Stage) : Type 0 where
  pub at : StageAt s past after
  pub sound : WereSound s before after

-- at whichever blocks the stage stood, it stands there still
abbrev pub StaysAt : Script → Stage → Stage → Type 0
StaysAt s before after = (past : List Block) → StageAt s past before → StillAt s past before after

-- so it is; and where all had seen the same, it has come to rest
pub record Settles (s : Script) (before after : Stage) : Type 0 where
  pub at : StaysAt s before after
  pub rested : HaveSeenTheSame before → AreRested s after

-- at whichever blocks the stage rested, it stands there still
abbrev pub StaysFromRest : Script → Stage → Stage → Type 0
StaysFromRest s before after = (past : List Block) → RestsAt s past before → StageAt s past after

-- at whichever blocks the stage stood, it stands there still; and all have seen the same
pub record StaysAndShares (s : Script) (before after : Stage) : Type 0 where
  pub at : StaysAt s before after
  pub same : HaveSeenTheSame after

-- the stage, and so main, has come to this time
pub record HasGoneTo (time : ℕ) (st : Stage) : Type 0 where
  pub now : st.time ≡ time
  pub reached : HasReached time st.controller

-- the stage has come to this time; from rest it stands at its blocks still; and where this time lay ahead, it begins a block at it
pub record GoesTo (s : Script) (time : ℕ) (before after : Stage) : Type 0 where
  pub gone : HasGoneTo time after
  pub at : StaysFromRest s before after
  pub block : (past : List Block) → RestsAt s past before → TimeLiesAhead s past time before → BeginsBlock s past time after

-- meanwhile the controller has called nothing, and the time stood still
pub record StandsStill (s : Script) (before after : Stage) : Type 0 where
  pub stage : IsStage s after
  pub none : CallsNone before.controller after.controller
  pub now : after.time ≡ before.time

-- the controller has only looked for pulses, and all else is as before
pub record OnlyLooked (s : Script) (before after : Stage) : Type 0 where
  pub still : StandsStill s before after
  pub threads : after.threads.items ≡ before.threads.items
  pub loopers : after.loopers ≡ before.loopers
  pub posters : after.controller.kit.posters ≡ before.controller.kit.posters

-- the stage had come to rest at these blocks, since when the controller has only looked; nothing was due on a queue before this time, to which the
-- queues' times might be moved
pub record IsReadyFor (s : Script) (past : List Block) (time : ℕ) (st : Stage) : Type 0 where
  pub stood : Stage
  pub stage : IsStage s stood
  pub rests : RestsAt s past stood
  pub looked : OnlyLooked s stood st
  pub due : AreDue s time stood
  pub may : MayBeMovedTo s time stood.controller

-- the stage's time was moved on, and unless a message is due the queues'; where the stage was ready for this time, it stands at its blocks still; it was moved,
-- where each queue's history is one that it may have; and where the time lay ahead, it begins a block at it
pub record MovesOn (s : Script) (time : ℕ) (before after : Stage) (moved : Bool) : Type 0 where
  pub now : after.time ≡ max before.time time
  pub reached : moved ≡ true → HasReached time after.controller
  pub at : (past : List Block) (ready : IsReadyFor s past time before) → StillAt s past ready.stood after
  pub drained : (past : List Block) → IsReadyFor s past time before → AreSound s after.controller → moved ≡ true
  pub block : (past : List Block) (ready : IsReadyFor s past time before) → TimeLiesAhead s past time ready.stood → BeginsBlock s past time after

-- the controller has only moved the time of the script's loopers so far, no queue past the stage's time
pub record IsUnderWay (s : Script) (st : Stage) : Type 0 where
  pub some : 0 < s.loopers
  pub stage : IsStage s st
  pub moving : IsMoving s st.controller
  pub by : AreBy st.time st.controller

-- the run may go on to this time: it is no earlier than the stage's, and a block has it, or the end
pub record IsGoal (s : Script) (time : ℕ) (st : Stage) : Type 0 where
  pub later : st.time ≤ time
  pub within : time ≤ s.end
  pub planned : is_planned_time s time ≡ true

-- the stage is under way, and main's time has come to the end
pub record IsAtEnd (s : Script) (st : Stage) : Type 0 where
  pub way : IsUnderWay s st
  pub reached : HasReached s.end st.controller

-- from rest the stage stands at its blocks still; and main is to be halted, since the other queues were quit
pub record ClosesFromRest (s : Script) (before after : Stage) : Type 0 where
  pub closing : IsClosing s after.controller
  pub at : StaysFromRest s before after

-- no history got shorter, and where all loopers had the turn and none has grown, they have come to rest
pub record RestsUnlessGrown (turn : Turn) (s : Script) (before after : Stage) : Type 0 where
  pub grown : AtEach IsPrefix (seen_by before.controller.kit.posters.items) (seen_by after.controller.kit.posters.items)
  pub rested : turn ≡ All → HaveSeenTheSame before
      → seen_by after.controller.kit.posters.items ≡ seen_by before.controller.kit.posters.items → AreRested s after

-- the loopers whose turn it was ran a round; the stage stands at its blocks still, and all have seen the same
pub record TakesRound (turn : Turn) (s : Script) (before after : Stage) : Type 0 where
  pub at : StaysAt s before after
  pub turns : HaveTakenTurns turn before.loopers.items after.loopers.items
  pub same : HaveSeenTheSame after
  pub rested : RestsUnlessGrown turn s before after

-- they ran rounds; and where all loopers had the turn, and all had seen the same, they have come to rest
pub record TakesRounds (turn : Turn) (s : Script) (before after : Stage) : Type 0 where
  pub at : StaysAt s before after
  pub turns : HaveTakenTurns turn before.loopers.items after.loopers.items
  pub rested : turn ≡ All → HaveSeenTheSame before → AreRested s after

-- the controller looked for the next time: from rest nothing is due before it, and the queues' times may be moved to it
pub record FindsNext (s : Script) (before after : Stage) (next : Option ℕ) : Type 0 where
  pub looked : OnlyLooked s before after
  pub due : (t : ℕ) → AreRested s before → NotLater t next → AreDue s t before
  pub reason : (t : ℕ) → AreRested s before → next ≡ Some t → MayBeMovedTo s t before.controller
  pub look : (k : ℕ) → k < s.loopers → LooksUnlessEnded k before.loopers.items before.controller after.controller next

-- so it did for one looper: unless that has ended, the time is not later than its wait and its pulse, and is one of them
pub record FindsNextOn (looper : ℕ) (s : Script) (before after : Stage) (next : Option ℕ) : Type 0 where
  pub looked : OnlyLooked s before after
  pub due : NotLaterThanWait looper before.loopers.items next
  pub reason : (t : ℕ) → next ≡ Some t → IsAwaited s t looper before.loopers.items
  pub look : LooksUnlessEnded looper before.loopers.items before.controller after.controller next
  pub over : (l : StageLooper) → is_ended (slice_index_or before.loopers.items looper l).last ≡ true → next ≡ None
  pub elsewhere : OtherPassesStay looper before.controller after.controller

-- the run was given up: main was nudged, the other queues were quit plainly unless memory ran out, and the other loopers ran a round
pub record HasGivenUp (s : Script) (before after : Stage) (done : Bool) : Type 0 where
  pub stage : IsStage s after
  pub nudged : IsNudged before.controller after.controller
  pub quit : done ≡ true → AreQuit before.time before.controller after.controller
  pub run : OthersHaveRun s before.time before.loopers.items after.loopers.items
  pub main : AtTurn Others false IsTheSame before.loopers.items after.loopers.items

-- the stage has run the blocks before this one, and stands at this one
pub record IsAtNext (s : Script) (past rest : List Block) (b : Block) (st : Stage) : Type 0 where
  pub next : past ++ b ∷ rest ≡ s.blocks
  pub moving : IsMoving s st.controller
  pub now : st.time ≡ b.time
  pub at : StageAt s past st
  pub begins : BeginsBlock s past b.time st

-- wherever this block was the next, the stage has run it
abbrev pub StageRunsBlock : Script → Block → Stage → Stage → Type 0
StageRunsBlock s b before after = (past rest : List Block) → IsAtNext s past rest b before → StageAt s (past ++ b ∷ []) after
