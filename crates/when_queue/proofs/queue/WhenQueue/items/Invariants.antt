use Rattle.std.proofs.Common.{◌≡◌, ◌++◌}
use Rattle.when_queue.specs.Queue.{items_of}
use Rattle.when_queue.proofs.queue.WhenQueue.items.Given as goal

-- what was gone through is in the list
abbrev pub invariant-loop-message : goal.invariant-loop-message
invariant-loop-message g l =
    ((goal.iterator-loop-message g).can_next l.message-iterator × (goal.iterator-loop-message g).is_finite l.message-iterator) × (l.items.items ++ items_of l.message-iterator ≡ items_of l.self)
