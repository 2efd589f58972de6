use Rattle.inbox_queue.proofs.Gatherings.{begins}
use Rattle.inbox_queue.proofs.inbox.Inbox.make.Goals as goal

pub with_rule-requires : goal.with_rule-requires
with_rule-requires c = begins
