use Rattle.inbox_queue.proofs.Gatherings.{takes_as}
use Rattle.inbox_queue.proofs.inbox.take_rest.Goals as goal

pub pop_as-requires-clause-rule : goal.pop_as-requires-clause-rule
pop_as-requires-clause-rule g c = takes_as _ _ _ _ c.loop.invariant.1
