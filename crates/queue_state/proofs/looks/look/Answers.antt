use Rattle.queue_state.proofs.Looking.{due_at}
use Rattle.queue_state.proofs.looks.look.Goals as goal

pub returns-in-Some-clause-due : goal.returns-in-Some-clause-due
returns-in-Some-clause-due g c = due_at c.args.queue.now c.args.now c.in-Some.found.index c.in-Some.found.when c.in-Some.ensures.index c.in-Some.ensures.when c.if-found-now.true
