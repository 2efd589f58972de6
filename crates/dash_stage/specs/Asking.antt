-- What was asked of each looper's choreographer so far in a run, and when.
use Rattle.std.specs.Prelude.{◌<◌, ◌≤◌, ℕ, List, length, slice_index_or}
use Rattle.frame_phases.specs.declared.entry.FrameEntry.{FrameEntry}
use Rattle.dash_script.specs.declared.script.Block.{Block}
use Rattle.dash_script.specs.declared.script.Script.{Script}
use Rattle.run_model.specs.FrameRecords.{in_round}
use Rattle.run_model.specs.AskedSoFar.{HaveAsked, asked_so_far}
use Rattle.dash_hall.specs.Hearing.{HasHeardAll, HaveHeardAllAt}
use Rattle.dash_threads.specs.declared.thread.PostingThread.{PostingThread}
use Rattle.dash_loopers.specs.declared.looper.StageLooper.{StageLooper}
use Rattle.dash_loopers.specs.Loopers.{OfItsPass}
use Rattle.dash_stage.specs.declared.stage.Stage.{Stage}
use Rattle.dash_stage.specs.Sharing.{HaveHeardTheSame}
use Rattle.dash_stage.specs.Timeliness.{AreSound}

-- what the threads and looper q have heard of its choreographer was asked for in turn, up to this block or these rounds: by the threads for their lines of
-- these blocks, and by the looper in rounds
pub record IsAskedInTurn (s : Script) (past : List Block) (last q : ℕ) (st : Stage) : Type 0 where
  pub made : List (ℕ × FrameEntry)
  pub threads : (k : ℕ) (d : PostingThread) → k < length st.threads.items → HaveHeardAllAt q made (slice_index_or st.threads.items k d).kit.frames.items
  pub looper : (d : StageLooper) → q < length st.loopers.items → OfItsPass (HasHeardAll made) (slice_index_or st.loopers.items q d)
  pub asked : HaveAsked last made (asked_so_far s.threads q past made)

-- so it is with each choreographer, where each queue's history is one that it may have
abbrev pub AllAskedInTurn : Script → List Block → ℕ → Stage → Type 0
AllAskedInTurn s past last st = AreSound s st.controller → (q : ℕ) → q < s.loopers → IsAskedInTurn s past last q st

-- and all passes have heard the same
pub record AskInTurn (s : Script) (past : List Block) (last : ℕ) (st : Stage) : Type 0 where
  pub same : HaveHeardTheSame s st
  pub asked : AllAskedInTurn s past last st

-- so it is up to the rounds at the stage's time, which is no later than the end
pub record AskUpToNow (s : Script) (past : List Block) (st : Stage) : Type 0 where
  pub within : st.time ≤ s.end
  pub turn : AskInTurn s past (in_round st.time) st
