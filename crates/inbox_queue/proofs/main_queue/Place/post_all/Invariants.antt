use Rattle.std.proofs.Common.{◌≡◌, ◌≤◌, length, take}
use Rattle.inbox_queue.specs.MainQueue.{HandsAreAt, threads_of, seen, HasPosted}
use Rattle.inbox_queue.proofs.Playing.{Led}
use Rattle.inbox_queue.proofs.main_queue.Place.post_all.Given as goal

abbrev pub invariant-loop-parcel : goal.invariant-loop-parcel
invariant-loop-parcel g l =
    HandsAreAt l.self l.hands × (threads_of l.hands ≡ threads_of l.fn.hands) × Led (threads_of l.fn.hands) (HasPosted (threads_of l.fn.hands) (take l.parcel-index l.parcels)) (seen l.fn.hands) (seen l.hands) × (l.parcel-index ≤ length l.parcels)
