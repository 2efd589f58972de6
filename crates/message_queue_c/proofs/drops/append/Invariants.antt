use Rattle.std.proofs.Common.{◌≡◌, ◌+◌, ◌<◌, ◌^◌, ◌++◌, length}
use Rattle.message_queue_c.proofs.drops.append.Given as goal

abbrev pub invariant-loop-node : goal.invariant-loop-node
invariant-loop-node l = record {
  all : l.those ++ l.these ≡ l.fn.those ++ l.fn.these;
  room : length l.those + length l.these < 2 ^ 64;
}

abbrev pub decreases-loop-node : goal.decreases-loop-node
decreases-loop-node l = length l.these
