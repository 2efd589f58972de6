use Rattle.std.proofs.Common.{◌≡◌, ◌<◌, ℕ, false, slice_index_or}
use Rattle.dash_threads.specs.declared.thread.PostingThread.{PostingThread}
use Rattle.dash_stage.proofs.side.has_given_up.Given as goal

abbrev pub invariant-loop-thread : goal.invariant-loop-thread
invariant-loop-thread l = (k : ℕ) (d : PostingThread) → k < l.thread-index → (slice_index_or l.threads k d).gave_up ≡ false
