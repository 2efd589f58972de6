use Rattle.std.proofs.Common.{◌≡◌, ◌++◌, length}
use Rattle.std.specs.Vec.Iter.{into_iter_items, into_iter_len}
use Rattle.shared_queue.specs.Ends.{Gathered}
use Rattle.shared_queue.proofs.queue.SharedQueue.gather.Given as goal

abbrev pub invariant-loop-poster : goal.invariant-loop-poster
invariant-loop-poster g l =
    (l.yielded ++ into_iter_items l.poster-iterator ≡ into_iter_items l.initial.poster-iterator)
    × (into_iter_len l.poster-iterator ≡ length (into_iter_items l.poster-iterator))
    × (l.seat.table_id ≡ l.self.table)
    × Gathered l.self l.yielded l.seat.me
