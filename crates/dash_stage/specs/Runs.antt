-- What the threads have run, told by their kits.
use Rattle.std.specs.Prelude.{◌<◌, ◌+◌, ℕ, List, length, slice_index_or}
use Rattle.dash_script.specs.declared.script.Script.{Script}
use Rattle.run_model.specs.Planned.{lines_of}
use Rattle.dash_hall.specs.declared.kit.Kit.{Kit}
use Rattle.dash_threads.specs.declared.thread.PostingThread.{PostingThread}
use Rattle.run_model.specs.Moments.{Mode}
use Rattle.dash_threads.specs.Threads.{HasCalled, HasAsked, IsUpTo}

-- on each queue the calls of all the thread's lines were made, and each choreographer was asked for the posts and removals of callbacks that they ask for
pub record HasRunAll (m : Mode) (s : Script) (thread : ℕ) (kit : Kit) : Type 0 where
  pub called : HasCalled m s (lines_of thread s.blocks) thread kit.posters.items
  pub asked : HasAsked m (lines_of thread s.blocks) kit.frames.items

-- each thread's kit tells so
abbrev pub HaveRunAll : Mode → Script → List Kit → Type 0
HaveRunAll m s kits = (k : ℕ) (d : Kit) → k < length kits → k < s.threads → HasRunAll m s k (slice_index_or kits k d)

-- the threads from n on have run all their lines
abbrev pub HaveRunFrom : Mode → Script → ℕ → List PostingThread → Type 0
HaveRunFrom m s n ts = (k : ℕ) (d : PostingThread) → k < length ts → IsUpTo m s (lines_of (k + n) s.blocks) (slice_index_or ts k d)
