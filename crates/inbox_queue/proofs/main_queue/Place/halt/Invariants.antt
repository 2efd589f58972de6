use Rattle.std.proofs.Common.{◌≡◌}
use Rattle.inbox_queue.specs.MainQueue.{HandsAreAt, threads_of, seen, LookedAlone}
use Rattle.inbox_queue.proofs.Playing.{Led}
use Rattle.inbox_queue.proofs.main_queue.Place.halt.Given as goal

abbrev pub invariant-loop : goal.invariant-loop
invariant-loop g l =
    HandsAreAt l.self l.hands × (threads_of l.hands ≡ threads_of l.fn.hands) × Led (threads_of l.fn.hands) (LookedAlone (threads_of l.fn.hands)) (seen l.fn.hands) (seen l.hands)
