-- What the records that are kept of a stage tell of its run.
use Rattle.std.specs.Prelude.{◌≡◌, ℕ, List, map, true}
use Rattle.std.specs.List.{AllByRecursion}
use Rattle.loop_model.specs.declared.journal.Journal.{Journal}
use Rattle.loop_model.specs.declared.record.QueueRecord.{QueueRecord}
use Rattle.frame_phases.specs.declared.entry.FrameRecord.{FrameRecord}
use Rattle.dash_script.specs.declared.script.Script.{Script}
use Rattle.run_model.specs.Planned.{history_of, controller}
use Rattle.run_model.specs.declared.report.Report.{Report}
use Rattle.run_model.specs.Moments.{Mode, in_lockstep}
use Rattle.run_model.specs.Control.{moves, AreMovedTogether, AreBlocksFirst, AreBlocksReached}
use Rattle.run_model.specs.Run.{IsAsPlanned, IsControlled, IsFrameRun, IsTimely, main_ends_halted}
use Rattle.run_model.specs.Parts.{IsBeforeQuit}
use Rattle.loop_model.specs.declared.entry.Entry.{Entry}
use Rattle.dash_hall.specs.declared.hall.Hall.{Hall}
use Rattle.dash_hall.specs.declared.kit.Kit.{Kit}
use Rattle.dash_hall.specs.Hearing.{HaveSeenAll}
use Rattle.dash_hall.specs.Kits.{OthersAreOver}
use Rattle.dash_threads.specs.declared.thread.PostingThread.{PostingThread}
use Rattle.dash_threads.specs.Threads.{AreByClock}
use Rattle.dash_loopers.specs.declared.looper.StageLooper.{StageLooper}
use Rattle.dash_loopers.specs.Loopers.{HaveTold}
use Rattle.dash_stage.specs.declared.stage.Stage.{Stage}
use Rattle.dash_stage.specs.Leaving.{HaveGiven}
use Rattle.dash_stage.specs.Runs.{HaveRunAll}
use Rattle.dash_stage.specs.Sharing.{OfThreads, OfKits, CarriesToKits}
use Rattle.dash_stage.specs.Controllers.{HasClosedIn}
use Rattle.dash_stage.specs.Records.{AreQueueRecords, AreFrameRecords, AreJournals, AreLooperRuns}
use Rattle.dash_stage.specs.RunEnds.{HasEndedBy, HasEndedByClock, HasEndedInLockstep}
use Rattle.dash_stage.specs.Stages.{AreThreadKits, AreSenderKits, HaveRunBy, OthersHaveEnded, LoopersGoOn}
use Rattle.dash_stage.specs.Timeliness.{HasHaltedLast}

-- the records are the script's, one a looper; and whatever is known of the stage at the end of its run, in lockstep or by a clock, they tell of it
pub record AreKeptOf (s : Script) (st : Stage) (qs : List QueueRecord) (js : List Journal) (fs : List FrameRecord) : Type 0 where
  pub queues : (m : Mode) → HasEndedBy m s st → AreQueueRecords m s qs
  pub planned : (m : Mode) → HaveRunBy m s s.blocks st.threads.items → AllByRecursion (IsAsPlanned m s) qs
  pub controls : (m : Mode) → HasEndedBy m s st → HasClosedIn m.lockstep s st.controller → AllByRecursion (IsControlled s) qs
  pub halted : (m : Mode) → HasEndedBy m s st → HasHaltedLast s st → main_ends_halted qs ≡ true
  pub before_quit : HasEndedInLockstep s st → AllByRecursion (IsBeforeQuit s) qs
  pub before_quit_by_clock : (m : Mode) → HasEndedByClock m s st → AllByRecursion (IsBeforeQuit s) qs
  pub timely : HasEndedInLockstep s st → AllByRecursion (IsTimely s) qs
  pub loopers : HasEndedInLockstep s st → AreLooperRuns in_lockstep s qs js fs
  pub by_clock : (m : Mode) → HasEndedByClock m s st → AreLooperRuns m s qs js fs
  pub journals : AreJournals s js
  pub frames : AreFrameRecords s fs
  pub run : AllByRecursion (IsFrameRun s) fs
  pub first : HasEndedInLockstep s st → AreBlocksFirst s qs
  pub reached : HasEndedInLockstep s st → AreBlocksReached s qs
  pub moves : HasEndedInLockstep s st → AreMovedTogether s (map (λ (q : QueueRecord). moves (controller s) (history_of q)) qs)

-- the report holds what is kept of this stage, whose clock was read so at the start
pub record HoldsKept (s : Script) (st : Stage) (began : ℕ) (r : Report) : Type 0 where
  pub script : r.script ≡ s
  pub start : r.start ≡ began
  pub kept : AreKeptOf s st r.queues r.journals r.frames

-- the loopers left these journals, and what they worked with behind the threads' kits, of which it tells what is known of the loopers
pub record GiveBack (s : Script) (hall : Hall) (ls : List StageLooper) (before after : List Kit) (js : List Journal) : Type 0 where
  pub journals : AreJournals s js
  pub kits : AreSenderKits s hall after
  pub run : (m : Mode) → HaveRunAll m s before → HaveRunAll m s after
  pub clocked : (m : Mode) → CarriesToKits (AreByClock m) ls before after
  pub seen : (whole : List (List Entry)) → CarriesToKits (HaveSeenAll whole) ls before after
  pub told : LoopersGoOn ls → HaveTold s js after
  pub left : HaveGiven s ls js after
  pub over : OthersHaveEnded ls → OthersAreOver s after

-- these are the kits of the threads, of which they tell what is known of the threads
pub record GiveKits (s : Script) (hall : Hall) (ts : List PostingThread) (ks : List Kit) : Type 0 where
  pub kits : AreThreadKits s hall ks
  pub run : (m : Mode) → HaveRunBy m s s.blocks ts → HaveRunAll m s ks
  pub clocked : (m : Mode) → OfThreads (AreByClock m) ts → OfKits (AreByClock m) ks
  pub seen : (whole : List (List Entry)) → OfThreads (HaveSeenAll whole) ts → OfKits (HaveSeenAll whole) ks
