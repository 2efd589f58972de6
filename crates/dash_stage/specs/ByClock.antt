-- What the senders of a run do by a clock.
use Rattle.std.specs.Prelude.{◌≡◌, ℕ, Bool, true, false, ◌<◌, ◌≤◌, List, length, slice_index_or, Option, Some, None}
use Rattle.loop_io.specs.Moments.{IsMoment}
use Rattle.looper_run.specs.Round.{is_ended}
use Rattle.looper_run.specs.declared.by_clock.Loop.{Loop}
use Rattle.dash_script.specs.declared.script.Script.{Script}
use Rattle.run_model.specs.Moments.{Mode}
use Rattle.run_model.specs.ByClock.{in_free_mode}
use Rattle.dash_hall.specs.declared.hall.Hall.{Hall}
use Rattle.dash_hall.specs.declared.timer.Timer.{Timer}
use Rattle.dash_threads.specs.declared.thread.PostingThread.{PostingThread}
use Rattle.dash_threads.specs.Threads.{IsThread, AreByClock, RunsAll, ThreadKeeps}
use Rattle.dash_loopers.specs.declared.looper.StageLooper.{StageLooper}
use Rattle.dash_loopers.specs.Loopers.{IsLooper}
use Rattle.dash_loopers.specs.Looped.{GoesOnFrom, HasGoneRound, LoopsToPulse, LoopsUntilStopped, ends_at, HasLooped}
use Rattle.dash_script.specs.Reading.{HasText}
use Rattle.dash_hall.specs.Kits.{IsHall}
use Rattle.dash_hall.specs.Hearing.{AtEach, HaveHeard, AreKept}
use Rattle.dash_stage.specs.declared.control.Controller.{Controller}
use Rattle.dash_stage.specs.BehindThreads.{SeesMore, HasHeardThreads, CallsBehindThreads}
use Rattle.dash_stage.specs.GivingUp.{HaveBeenRung}
use Rattle.dash_stage.specs.Sharing.{ControllerKeeps}
use Rattle.dash_stage.specs.Stages.{AreThreads, AreLoopers}
use Rattle.dash_stage.specs.Controllers.{IsControllerIn, CallsNothingOn, IsClosingBy}
use Rattle.dash_stage.specs.Playing.{HaveBegun}

-- the thread is the same, and unless it gave up it has run all its lines
pub record RunsByClock (m : Mode) (s : Script) (hall : Hall) (before after : PostingThread) : Type 0 where
  pub thread : IsThread s hall after
  pub number : after.number ≡ before.number
  pub made : after.gave_up ≡ false → RunsAll m s before after

-- the looper has gone on by the clock, and looped up to this end, or stopped by this look
pub record LoopsFor (m : Mode) (s : Script) (hall : Hall) (end : Option ℕ) (look : Option Bool) (before after : StageLooper) : Type 0 where
  pub goes : HasLooped m s hall before after
  pub loops : LoopsUntilStopped m s end before after look

-- so it is with a looper that loops without an end, and whose look is nobody's
abbrev pub LoopsAlone : Mode → Script → Hall → StageLooper → StageLooper → Type 0
LoopsAlone m s hall before after = (look : Option Bool) × LoopsFor m s hall None look before after

-- main looped by the clock, and its last loop came to the script's end with nothing due that may be dispatched
pub record LoopsToEnd (m : Mode) (s : Script) (before after : StageLooper) : Type 0 where
  pub count : ℕ
  pub between : StageLooper
  pub rounds : HasGoneRound m s (Some s.end) count before between
  pub how : Loop
  pub loops : LoopsToPulse m s (Some s.end) between after how
  pub at_end : ends_at how (Some s.end) ≡ true

-- a looper looped by the clock until its queue was over
pub record LoopsOut (m : Mode) (s : Script) (before after : StageLooper) : Type 0 where
  pub count : ℕ
  pub rounds : HasGoneRound m s None count before after
  pub ended : is_ended after.last ≡ true

-- by the controller the queues but main may have been quit, at moments of the clock, and nothing else was called; it has seen all that it had seen
pub record QuitsOthers (m : Mode) (s : Script) (hall : Hall) (before after : Controller) : Type 0 where
  pub more : SeesMore before after
  pub controller : IsControllerIn false s hall after
  pub closing : IsClosingBy s after
  pub clocked : AreByClock m before.kit.posters.items → AreByClock m after.kit.posters.items

-- each is a thread of the script, or a looper
abbrev pub EachIsThread : Script → Hall → List PostingThread → Type 0
EachIsThread s hall ts = (k : ℕ) (d : PostingThread) → k < length ts → IsThread s hall (slice_index_or ts k d)

abbrev pub EachIsLooper : Script → Hall → List StageLooper → Type 0
EachIsLooper s hall ls = (k : ℕ) (d : StageLooper) → k < length ls → IsLooper s hall (slice_index_or ls k d)

-- the hall is the script's, by a clock
abbrev pub IsFreeHall : Script → Hall → Type 0
IsFreeHall s hall = IsHall s hall × (hall.lockstep ≡ false)

-- the mode of a run by a clock that shows such numbers, from where this timer started
abbrev pub by_timer : {C : Type 0} → (C → ℕ → Bool) → Timer C → Mode
by_timer shows timer = in_free_mode (shows timer.clock.now) timer.start

-- so it is with each thread, or with each looper
abbrev pub EachRuns : Mode → Script → Hall → List PostingThread → List PostingThread → Type 0
EachRuns m s hall before after = AtEach (RunsByClock m s hall) before after

abbrev pub EachLoops : Mode → Script → Hall → List StageLooper → List StageLooper → Type 0
EachLoops m s hall before after = AtEach (HasLooped m s hall) before after

abbrev pub EachLoopsAlone : Mode → Script → Hall → List StageLooper → List StageLooper → Type 0
EachLoopsAlone m s hall before after = AtEach (LoopsAlone m s hall) before after

-- so it is with main alone, up to the script's end, and no look stopped it
abbrev pub MainLoops : Mode → Script → Hall → List StageLooper → List StageLooper → Type 0
MainLoops m s hall before after = AtEach (LoopsFor m s hall (Some s.end) None) before after

-- the first, main, looped up to the script's end, or has ended or given up, and each other looped alone
pub record LoopSideBySide (m : Mode) (s : Script) (before after : List StageLooper) : Type 0 where
  pub main : (d : StageLooper) → 0 < length before → LoopsUntilStopped m s (Some s.end) (slice_index_or before 0 d) (slice_index_or after 0 d) None
  pub others : (k : ℕ) (d : StageLooper) → 0 < k → k < length before
      → (look : Option Bool) × LoopsUntilStopped m s None (slice_index_or before k d) (slice_index_or after k d) look

-- each looper looped by the clock from before its first act, main up to the script's end and each other until its queue was over, and has gone on from there
pub record HaveLooped (m : Mode) (s : Script) (ls : List StageLooper) : Type 0 where
  pub began : List StageLooper
  pub looped : List StageLooper
  pub long : length looped ≡ length began
  pub nothing : HaveBegun s began
  pub main : (d : StageLooper) → 0 < length began → LoopsToEnd m s (slice_index_or began 0 d) (slice_index_or looped 0 d)
  pub others : (k : ℕ) (d : StageLooper) → 0 < k → k < length began → LoopsOut m s (slice_index_or began k d) (slice_index_or looped k d)
  pub on : AtEach (λ before after. GoesOnFrom before.looper after.looper) looped ls

-- the threads and these loopers ran beside each other
pub record RunBeside (m : Mode) (s : Script) (hall : Hall) (threads threads' : List PostingThread) (loopers loopers' : List StageLooper) : Type 0 where
  pub ran : EachRuns m s hall threads threads'
  pub loops : EachLoops m s hall loopers loopers'

-- the threads and main ran beside each other, main up to the script's end where the run went well
pub record RanMain (m : Mode) (s : Script) (hall : Hall) (ts ts' : List PostingThread) (main main' : List StageLooper) (Well : Type 0) : Type 0 where
  pub beside : RunBeside m s hall ts ts' main main'
  pub looped : Well → MainLoops m s hall main main'

-- the threads and the loopers ran beside each other, and the loopers looped up to their ends where the run went well
pub record RanBeside (m : Mode) (s : Script) (hall : Hall) (ts ts' : List PostingThread) (ls ls' : List StageLooper) (done : Bool) : Type 0 where
  pub beside : RunBeside m s hall ts ts' ls ls'
  pub looped : done ≡ true → LoopSideBySide m s ls ls'

-- the controller has heard the threads, behind whose calls its own stand
pub record HearsThreads (s : Script) (ts : List PostingThread) (before after : Controller) : Type 0 where
  pub kept : ControllerKeeps HaveHeard before after
  pub behind : CallsBehindThreads s ts after

-- it quit the loopers but main behind the threads' calls; or the run was given up, and all bells were rung
pub record EndsOthers (m : Mode) (s : Script) (hall : Hall) (ts : List PostingThread) (before after : Controller) (done : Bool) : Type 0 where
  pub quit : done ≡ true → QuitsOthers m s hall before after
  pub behind : done ≡ true → CallsBehindThreads s ts after
  pub rung : done ≡ false → HaveBeenRung s.loopers before after

-- it quit the loopers but main, which no look had stopped; or the run was given up, and all bells were rung
pub record HasQuitOthers {L : Type 0} (look : Option L) (m : Mode) (s : Script) (hall : Hall) (before after : Controller) (done : Bool) : Type 0 where
  pub heeds : done ≡ true → look ≡ None
  pub quit : done ≡ true → QuitsOthers m s hall before after
  pub rung : done ≡ false → HaveBeenRung s.loopers before after

-- what the senders need to run side by side
pub record CanRunBeside (s : Script) (h : Hall) (ts : List PostingThread) (ls : List StageLooper) (c : Controller) : Type 0 where
  pub text : HasText s
  pub some : 0 < s.loopers
  pub hall : IsFreeHall s h
  pub threads : AreThreads s h ts
  pub loopers : AreLoopers s h ls
  pub controller : IsControllerIn false s h c
  pub none : (q : ℕ) → CallsNothingOn c q

-- what threads need to run
pub record CanRunThreads (s : Script) (h : Hall) (ts : List PostingThread) : Type 0 where
  pub text : HasText s
  pub hall : IsFreeHall s h
  pub threads : EachIsThread s h ts

-- what a looper needs to run alone
pub record CanRunFirst (s : Script) (h : Hall) (ls : List StageLooper) : Type 0 where
  pub hall : IsFreeHall s h
  pub one : length ls ≡ 1
  pub loopers : EachIsLooper s h ls

-- what the main looper needs to drain
pub record CanDrain (s : Script) (h : Hall) (ls : List StageLooper) : Type 0 where
  pub some : 0 < s.loopers
  pub hall : IsFreeHall s h
  pub loopers : AreLoopers s h ls

-- a moment of the clock, the end of the script or later
pub record IsLateMoment (shows : ℕ → Bool) (start : ℕ) (s : Script) (now : ℕ) : Type 0 where
  pub moment : IsMoment shows start now
  pub late : s.end ≤ now

-- what the main looper and the threads need to run, and the controller behind them
pub record CanRunMain (s : Script) (h : Hall) (ls : List StageLooper) (ts : List PostingThread) (c : Controller) : Type 0 where
  pub text : HasText s
  pub some : 0 < s.loopers
  pub hall : IsFreeHall s h
  pub one : length ls ≡ 1
  pub loopers : EachIsLooper s h ls
  pub threads : EachIsThread s h ts
  pub controller : IsControllerIn false s h c
  pub none : (q : ℕ) → CallsNothingOn c q

-- what the controller needs to quit the loopers but main
pub record CanQuitOthers (s : Script) (h : Hall) (c : Controller) : Type 0 where
  pub some : 0 < s.loopers
  pub hall : IsFreeHall s h
  pub controller : IsControllerIn false s h c
  pub none : (q : ℕ) → CallsNothingOn c q

-- what the controller needs to hear the threads
pub record CanHearThreads (s : Script) (hall : Hall) (ts : List PostingThread) (c : Controller) : Type 0 where
  pub is_hall : IsHall s hall
  pub threads : EachIsThread s hall ts
  pub controller : IsControllerIn false s hall c

-- the controller's posters have heard those of the threads, and have seen all that these have
pub record HearsAllThreads (ts ts' : List PostingThread) (before after : Controller) : Type 0 where
  pub threads : AtEach (ThreadKeeps AreKept) ts ts'
  pub controller : ControllerKeeps HaveHeard before after
  pub heard : HasHeardThreads ts' after
