use Rattle.inbox_queue.proofs.Gatherings.{forks_as}
use Rattle.inbox_queue.proofs.inbox.deal.Goals as goal

pub another-pass-requires-clause-rule : goal.another-pass-requires-clause-rule
another-pass-requires-clause-rule c = forks_as _ _ _ _ c.loop-number.invariant.1
