use Rattle.std.proofs.Common.{◌≡◌, ◌<◌, ◌≤◌, ℕ, length}
use Rattle.std.specs.Prelude.{slice_index_or}
use Rattle.inbox_queue.specs.Handed.{PutPosts}
use Rattle.inbox_queue.specs.Gathered.{planned_for}
use Rattle.inbox_queue.proofs.gathering.have_put.Given as goal

abbrev pub invariant-loop-sender : goal.invariant-loop-sender
invariant-loop-sender l =
    ((k : ℕ) (d : PutPosts) → k < l.sender-index → (slice_index_or l.senders k d).put ≡ planned_for l.script l.block k) × (l.sender-index ≤ length l.senders)
