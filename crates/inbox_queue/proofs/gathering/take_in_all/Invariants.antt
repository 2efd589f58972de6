use Rattle.std.proofs.Common.{◌≡◌, ◌++◌, length, drop}
use Rattle.std.specs.Vec.Iter.{into_iter_items, into_iter_len}
use Rattle.inbox_queue.specs.Gathered.{all_put}
use Rattle.inbox_queue.proofs.gathering.take_in_all.Given as goal

abbrev pub invariant-loop-sender : goal.invariant-loop-sender
invariant-loop-sender l =
    (l.yielded ++ into_iter_items l.sender-iterator ≡ into_iter_items l.initial.sender-iterator)
    × (into_iter_len l.sender-iterator ≡ length (into_iter_items l.sender-iterator))
    × (l.admitter.inbox ≡ l.inbox)
    × (l.admitter.admitted ≡ l.fn.admitter.admitted)
    × (l.admitter.taken ≡ all_put l.yielded ++ drop (length l.yielded) l.fn.admitter.taken)
