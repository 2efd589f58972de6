-- How senders come to have seen the same of each queue's history, and heard the same of each choreographer's.
use Rattle.std.specs.Prelude.{◌≡◌, ◌≢◌, ◌<◌, ℕ, List, [], length, slice_index_or, IsSome}
use Rattle.atomic_table.specs.Seated.{TableId}
use Rattle.frame_phases.specs.declared.entry.FrameEntry.{FrameEntry}
use Rattle.loop_model.specs.declared.entry.Entry.{Entry}
use Rattle.looper_run.specs.Holding.{Sender}
use Rattle.shared_queue.specs.Known.{Shared, IsOf}
use Rattle.choreographer.specs.Known.{SharedFrames, Pass, IsPassOf, HasHeardWho}
use Rattle.dash_script.specs.declared.script.Script.{Script}
use Rattle.dash_hall.specs.declared.kit.Kit.{Kit}
use Rattle.dash_threads.specs.declared.thread.PostingThread.{PostingThread}
use Rattle.dash_loopers.specs.declared.looper.StageLooper.{StageLooper}
use Rattle.dash_stage.specs.declared.control.Controller.{Controller}
use Rattle.dash_stage.specs.declared.stage.Stage.{Stage}
use Rattle.dash_stage.specs.Stages.{IsStage}
use Rattle.dash_hall.specs.Hearing.{seen_by, AtEach, HasHeard, HaveHeard, HaveHeardAt, HaveSeenAll, AreKept, AreReady, AreKnown}
use Rattle.dash_hall.specs.Hearing.{PassHasHeard, PassesHaveHeard, HasHeardAll, HaveHeardAllAt, ArePassesReady, ArePassesKnown}
use Rattle.dash_threads.specs.Threads.{ThreadKeeps, TellsPass, HearsPass}
use Rattle.dash_loopers.specs.Loopers.{posters_of, LooperKeeps, OfItsPass, LooperHearsPass, IsWithin}

-- the controller's posters before and after are so, its passes are as before or heard others, and all else of it is as before
pub record ControllerKeeps (R : List Sender → List Sender → Type 0) (before after : Controller) : Type 0 where
  pub posters : R before.kit.posters.items after.kit.posters.items
  pub pass : after.kit.pass ≡ before.kit.pass
  pub frames : PassesHaveHeard before.kit.frames.items after.kit.frames.items
  pub sealed : after.sealed ≡ before.sealed
  pub sealed_frames : after.sealed_frames ≡ before.sealed_frames

-- the posters of each sender before and after are so, its passes are as before or heard others, and all else is as before
pub record StageKeeps (R : List Sender → List Sender → Type 0) (before after : Stage) : Type 0 where
  pub hall : after.hall ≡ before.hall
  pub threads : AtEach (ThreadKeeps R) before.threads.items after.threads.items
  pub loopers : AtEach (LooperKeeps R) before.loopers.items after.loopers.items
  pub controller : ControllerKeeps R before.controller after.controller
  pub pass : after.pass ≡ before.pass
  pub time : after.time ≡ before.time

-- this holds of the posters of each thread
abbrev pub OfThreads : (List Sender → Type 0) → List PostingThread → Type 0
OfThreads P ts = (k : ℕ) (d : PostingThread) → k < length ts → P (slice_index_or ts k d).kit.posters.items

-- this holds of the passes of each thread
abbrev pub OfPasses : (List Pass → Type 0) → List PostingThread → Type 0
OfPasses P ts = (k : ℕ) (d : PostingThread) → k < length ts → P (slice_index_or ts k d).kit.frames.items

-- the passes have heard of no entry
abbrev pub AreUnheard : List Pass → Type 0
AreUnheard passes = (q : ℕ) (p : Pass) → q < length passes → HasHeardAll [] (slice_index_or passes q p)

-- so it is with the pass of each looper
abbrev pub HaveHeardNothing : List StageLooper → Type 0
HaveHeardNothing ls = (k : ℕ) (d : StageLooper) → k < length ls → OfItsPass (HasHeardAll []) (slice_index_or ls k d)

-- this holds of the posters of each looper
abbrev pub OfLoopers : (List Sender → Type 0) → List StageLooper → Type 0
OfLoopers P ls = (k : ℕ) (d : StageLooper) → k < length ls → P (posters_of (slice_index_or ls k d))

-- this holds of the posters of each sender
pub record OfSenders (P : List Sender → Type 0) (st : Stage) : Type 0 where
  pub threads : OfThreads P st.threads.items
  pub loopers : OfLoopers P st.loopers.items
  pub controller : P st.controller.kit.posters.items

-- the passes of the choreographer at this place have heard this: the threads', its looper's and the controller's
pub record HavePassesHeard (place : ℕ) (whole : List (ℕ × FrameEntry)) (st : Stage) : Type 0 where
  pub threads : (k : ℕ) (d : PostingThread) → k < length st.threads.items → HaveHeardAllAt place whole (slice_index_or st.threads.items k d).kit.frames.items
  pub looper : (d : StageLooper) → place < length st.loopers.items → OfItsPass (HasHeardAll whole) (slice_index_or st.loopers.items place d)
  pub controller : HaveHeardAllAt place whole st.controller.kit.frames.items

-- what passes of the other choreographers have heard is as before
abbrev pub OtherPassesHearNothing : ℕ → Stage → Stage → Type 0
OtherPassesHearNothing place before after = (q : ℕ) (whole : List (ℕ × FrameEntry)) → q ≢ place → HavePassesHeard q whole before → HavePassesHeard q whole after

-- all passes of the choreographer at this place have heard the same, and of the others what they had; all else is as before
pub record SharesFramesAt (place : ℕ) (before after : Stage) : Type 0 where
  pub kept : StageKeeps AreKept before after
  pub heard : List (ℕ × FrameEntry)
  pub passes : HavePassesHeard place heard after
  pub elsewhere : OtherPassesHearNothing place before after

-- all senders have seen the same of the queue at this place, and of the others what they had seen
abbrev pub SharesAt : ℕ → Stage → Stage → Type 0
SharesAt place before after = (whole : List Entry) × StageKeeps (HaveHeardAt place whole) before after

-- all passes of each choreographer have heard the same
abbrev pub HaveHeardTheSame : Script → Stage → Type 0
HaveHeardTheSame s st = (q : ℕ) → q < s.loopers → (whole : List (ℕ × FrameEntry)) × HavePassesHeard q whole st

-- so it is with the posters of each kit
abbrev pub OfKits : (List Sender → Type 0) → List Kit → Type 0
OfKits P kits = (k : ℕ) (d : Kit) → k < length kits → P (slice_index_or kits k d).posters.items

-- what holds of the posters of each of these loopers and of each kit before holds of each kit after
abbrev pub CarriesToKits : (List Sender → Type 0) → List StageLooper → List Kit → List Kit → Type 0
CarriesToKits P ls before after = OfLoopers P ls → OfKits P before → OfKits P after

-- all senders have seen the same of each queue's history
abbrev pub HaveSeenTheSame : Stage → Type 0
HaveSeenTheSame st = OfSenders (HaveSeenAll (seen_by st.controller.kit.posters.items)) st

-- so it is with each looper
abbrev pub AreWithin : List StageLooper → Type 0
AreWithin ls = (k : ℕ) (d : StageLooper) → k < length ls → IsWithin (slice_index_or ls k d)

-- all senders have seen the same of each queue's history and heard the same of each choreographer's, and all else of the stage is as before
pub record HaveShared (s : Script) (before after : Stage) : Type 0 where
  pub stage : IsStage s after
  pub kept : StageKeeps HaveHeard before after
  pub same : HaveSeenTheSame after
  pub heard : HaveHeardTheSame s after

-- all senders have seen the same of each queue's history, and all else is as before
pub record HaveSharedQueues (before after : Stage) : Type 0 where
  pub kept : StageKeeps HaveHeard before after
  pub shared : HaveSeenTheSame after

-- a poster of this queue may hear those of the threads
pub record CanHearFrom (place : ℕ) (queue : Shared TableId) (ts : List PostingThread) (other : Sender) : Type 0 where
  pub ready : OfThreads (AreReady place queue) ts
  pub poster : IsOf other queue

-- or those of the loopers
pub record CanHearLoopers (place : ℕ) (queue : Shared TableId) (ls : List StageLooper) (other : Sender) : Type 0 where
  pub ready : OfLoopers (AreReady place queue) ls
  pub within : AreWithin ls
  pub poster : IsOf other queue

-- it heard all that those of the threads have seen
pub record ThreadsHaveTold (place : ℕ) (ts ts' : List PostingThread) (other other' : Sender) : Type 0 where
  pub kept : AtEach (ThreadKeeps AreKept) ts ts'
  pub heard : HasHeard other other'
  pub told : OfThreads (AreKnown place other'.view.seen) ts

-- or those of the loopers
pub record LoopersHaveTold (place : ℕ) (ls ls' : List StageLooper) (other other' : Sender) : Type 0 where
  pub kept : AtEach (LooperKeeps AreKept) ls ls'
  pub heard : HasHeard other other'
  pub told : OfLoopers (AreKnown place other'.view.seen) ls

-- this poster and those of the threads and loopers may hear each other
pub record CanShareBy (place : ℕ) (queue : Shared TableId) (ts : List PostingThread) (ls : List StageLooper) (p : Sender) : Type 0 where
  pub threads : OfThreads (AreReady place queue) ts
  pub loopers : OfLoopers (AreReady place queue) ls
  pub within : AreWithin ls
  pub poster : IsOf p queue

-- they have seen the same
pub record HaveSharedBy (place : ℕ) (ts ts' : List PostingThread) (ls ls' : List StageLooper) (p p' : Sender) : Type 0 where
  pub threads : AtEach (ThreadKeeps (HaveHeardAt place p'.view.seen)) ts ts'
  pub loopers : AtEach (LooperKeeps (HaveHeardAt place p'.view.seen)) ls ls'
  pub poster : HasHeard p p'

-- a pass of this choreographer may hear those of the threads
pub record CanHearPasses (place : ℕ) (c : SharedFrames) (ts : List PostingThread) (other : Pass) : Type 0 where
  pub ready : OfPasses (ArePassesReady place c) ts
  pub pass : IsPassOf other c

-- it heard all that they have
pub record HaveToldPass (place : ℕ) (ts ts' : List PostingThread) (other other' : Pass) : Type 0 where
  pub kept : AtEach TellsPass ts ts'
  pub heard : PassHasHeard other other'
  pub told : OfPasses (ArePassesKnown place other'.view.heard) ts

-- this pass and those of the threads and of the looper may hear each other
pub record CanSharePasses (place : ℕ) (c : SharedFrames) (ts : List PostingThread) (l : StageLooper) (p : Pass) : Type 0 where
  pub threads : OfPasses (ArePassesReady place c) ts
  pub parts : IsSome l.parts
  pub looper : OfItsPass (λ q. IsPassOf q c) l
  pub pass : IsPassOf p c

-- they have heard the same: who recorded each entry that one of them has seen
pub record HaveSharedPasses (place : ℕ) (ts ts' : List PostingThread) (l l' : StageLooper) (p p' : Pass) : Type 0 where
  pub threads : AtEach (HearsPass place p'.view.heard) ts ts'
  pub looper : LooperHearsPass p'.view.heard l l'
  pub pass : PassHasHeard p p'
  pub who : HasHeardWho p'
