use Rattle.inbox_queue.proofs.Gatherings.{merges_as}
use Rattle.inbox_queue.proofs.admitter.Admitter.take_in.Goals as goal

pub absorb-requires-clause-rule : goal.absorb-requires-clause-rule
absorb-requires-clause-rule c = merges_as _ _ _ _ _ _ _ _ c.self.invariant.0 c.sender.invariant.0
