use Rattle.std.proofs.Common.{◌≡◌, ◌≤◌, length, take, drop}
use Rattle.inbox_queue.specs.InboxRun.{AreOfBlocks}
use Rattle.inbox_queue.specs.MainQueue.{HandsAreAt, threads_of, seen, AreSilent}
use Rattle.inbox_queue.proofs.Playing.{Ran}
use Rattle.inbox_queue.proofs.run.play.Given as goal

abbrev pub invariant-loop-block : goal.invariant-loop-block
invariant-loop-block g l =
    HandsAreAt l.place l.hands
    × (threads_of l.hands ≡ l.script.threads)
    × AreOfBlocks l.script (take l.block-index l.script.blocks) l.admitted
    × (AreSilent l.script.threads (seen l.hands) → Ran l.script l.script.threads (take l.block-index l.script.blocks) (drop l.block-index l.script.blocks) l.admitted (seen l.hands))
    × (l.block-index ≤ length l.script.blocks)
