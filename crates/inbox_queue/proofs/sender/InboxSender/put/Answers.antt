use Rattle.inbox_queue.proofs.Gatherings.{puts_as}
use Rattle.inbox_queue.proofs.sender.InboxSender.put.Goals as goal

pub push_as-requires-clause-rule : goal.push_as-requires-clause-rule
push_as-requires-clause-rule g c n = puts_as n _ _ _ _ _ _ c.self.invariant.0 c.self.invariant.1
