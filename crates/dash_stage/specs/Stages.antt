-- A stage: the senders of a run, and what they share.
use Rattle.std.specs.Prelude.{◌≡◌, ◌<◌, ◌+◌, ℕ, Bool, true, false, List, length, slice_index_or}
use Rattle.dash_script.specs.declared.script.Block.{Block}
use Rattle.dash_script.specs.declared.script.Script.{Script}
use Rattle.run_model.specs.Planned.{lines_of, sender_count}
use Rattle.dash_script.specs.Reading.{HasText}
use Rattle.dash_hall.specs.declared.hall.Hall.{Hall}
use Rattle.dash_threads.specs.declared.thread.PostingThread.{PostingThread}
use Rattle.dash_loopers.specs.declared.looper.StageLooper.{StageLooper}
use Rattle.dash_stage.specs.declared.stage.Stage.{Stage}
use Rattle.dash_hall.specs.declared.kit.Kit.{Kit}
use Rattle.looper_run.specs.Round.{is_ended}
use Rattle.dash_hall.specs.Kits.{IsHall, IsKitOf}
use Rattle.run_model.specs.Moments.{Mode, in_lockstep}
use Rattle.dash_threads.specs.Threads.{IsThread, IsUpTo, Continues}
use Rattle.dash_loopers.specs.Loopers.{IsLooper, is_given_up}
use Rattle.dash_stage.specs.Controllers.{IsControllerIn}

-- the threads of the script, in order
abbrev pub AreThreads : Script → Hall → List PostingThread → Type 0
AreThreads s hall ts =
    (length ts ≡ s.threads) × ((k : ℕ) (d : PostingThread) → k < length ts → IsThread s hall (slice_index_or ts k d) × ((slice_index_or ts k d).number ≡ k))

-- the loopers of the script, in order
abbrev pub AreLoopers : Script → Hall → List StageLooper → Type 0
AreLoopers s hall ls =
    (length ls ≡ s.loopers) × ((k : ℕ) (d : StageLooper) → k < length ls → IsLooper s hall (slice_index_or ls k d) × ((slice_index_or ls k d).number ≡ k))

-- all senders of the script, which has a text, with what they need
pub record IsStageIn (lockstep : Bool) (s : Script) (st : Stage) : Type 0 where
  pub text : HasText s
  pub hall : IsHall s st.hall
  pub threads : AreThreads s st.hall st.threads.items
  pub loopers : AreLoopers s st.hall st.loopers.items
  pub controller : IsControllerIn lockstep s st.hall st.controller
  pub pass : st.pass.home ≡ st.hall.pool

-- what threads need to run a block
pub record CanRunBlock (s : Script) (hall : Hall) (ts : List PostingThread) : Type 0 where
  pub text : HasText s
  pub is_hall : IsHall s hall
  pub threads : AreThreads s hall ts

-- what loopers need to run a round in lockstep
pub record CanRunRound (s : Script) (hall : Hall) (ls : List StageLooper) : Type 0 where
  pub is_hall : IsHall s hall
  pub mode : hall.lockstep ≡ true
  pub loopers : AreLoopers s hall ls

-- the same in lockstep
abbrev pub IsStage : Script → Stage → Type 0
IsStage s st = IsStageIn true s st

-- a script has at least one looper and a period, and few senders
pub record IsPlayable (s : Script) : Type 0 where
  pub loopers : 0 < s.loopers
  pub period : 0 < s.period
  pub few : s.threads + s.loopers < 100

-- each thread has run its lines of these blocks, the first of the script's
abbrev pub HaveRunBy : Mode → Script → List Block → List PostingThread → Type 0
HaveRunBy m s bs ts = (k : ℕ) (d : PostingThread) → k < length ts → IsUpTo m s (lines_of k bs) (slice_index_or ts k d)

-- the same in lockstep
abbrev pub HaveRunInLockstep : Script → List Block → List PostingThread → Type 0
HaveRunInLockstep s bs ts = HaveRunBy in_lockstep s bs ts

-- each thread has run its lines of this block, where it comes next
abbrev pub EachRunsBlock : Script → Block → List PostingThread → List PostingThread → Type 0
EachRunsBlock s b before after =
    (k : ℕ) (d : PostingThread) → k < length before → Continues in_lockstep s b (slice_index_or before k d) (slice_index_or after k d)

-- the thread is the same, and unless it gave up it has run its lines of this block
abbrev pub RunsBlock : Script → Hall → Block → PostingThread → PostingThread → Type 0
RunsBlock s hall b before after = IsThread s hall after × (after.number ≡ before.number) × (after.gave_up ≡ false → Continues in_lockstep s b before after)

-- none has given up
abbrev pub GoOn : List PostingThread → Type 0
GoOn ts = (k : ℕ) (d : PostingThread) → k < length ts → (slice_index_or ts k d).gave_up ≡ false

-- the kits of the senders from n on
pub record AreKitsFrom (s : Script) (hall : Hall) (n : ℕ) (kits : List Kit) : Type 0 where
  pub count : length kits + n ≡ sender_count s
  pub each : (k : ℕ) (d : Kit) → k < length kits → IsKitOf s hall (k + n) (slice_index_or kits k d)

-- the threads from n on
pub record AreThreadsFrom (s : Script) (hall : Hall) (n : ℕ) (ts : List PostingThread) : Type 0 where
  pub count : length ts + n ≡ s.threads
  pub each : (k : ℕ) (d : PostingThread) → k < length ts → IsThread s hall (slice_index_or ts k d) × ((slice_index_or ts k d).number ≡ k + n)

-- the loopers from n on
pub record AreLoopersFrom (s : Script) (hall : Hall) (n : ℕ) (ls : List StageLooper) : Type 0 where
  pub count : length ls + n ≡ s.loopers
  pub each : (k : ℕ) (d : StageLooper) → k < length ls → IsLooper s hall (slice_index_or ls k d) × ((slice_index_or ls k d).number ≡ k + n)

-- the first kits, the first threads, the first loopers
abbrev pub AreFirstKits : Script → Hall → List Kit → Type 0
AreFirstKits s hall kits = (k : ℕ) (d : Kit) → k < length kits → IsKitOf s hall k (slice_index_or kits k d)

abbrev pub AreFirstThreads : Script → Hall → List PostingThread → Type 0
AreFirstThreads s hall ts = (k : ℕ) (d : PostingThread) → k < length ts → IsThread s hall (slice_index_or ts k d) × ((slice_index_or ts k d).number ≡ k)

abbrev pub AreFirstLoopers : Script → Hall → List StageLooper → Type 0
AreFirstLoopers s hall ls = (k : ℕ) (d : StageLooper) → k < length ls → IsLooper s hall (slice_index_or ls k d) × ((slice_index_or ls k d).number ≡ k)

-- the kits of all threads, and of all threads and loopers
abbrev pub AreThreadKits : Script → Hall → List Kit → Type 0
AreThreadKits s hall kits = (length kits ≡ s.threads) × AreFirstKits s hall kits

abbrev pub AreSenderKits : Script → Hall → List Kit → Type 0
AreSenderKits s hall kits = (length kits ≡ s.threads + s.loopers) × AreFirstKits s hall kits

-- each looper but the main one has ended
abbrev pub OthersHaveEnded : List StageLooper → Type 0
OthersHaveEnded ls = (k : ℕ) (d : StageLooper) → 0 < k → k < length ls → is_ended (slice_index_or ls k d).last ≡ true

-- no looper has given up
abbrev pub LoopersGoOn : List StageLooper → Type 0
LoopersGoOn ls = (k : ℕ) (d : StageLooper) → k < length ls → is_given_up (slice_index_or ls k d).last ≡ false

-- a stage of which records can be kept: each looper but the main one has ended, and none has given up
pub record CanBeKept (s : Script) (st : Stage) : Type 0 where
  pub stage : IsStageIn st.hall.lockstep s st
  pub ended : OthersHaveEnded st.loopers.items
  pub on : LoopersGoOn st.loopers.items
