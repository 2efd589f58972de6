use Rattle.loop_tests.proofs.Popped.{popped}
use Rattle.loop_tests.proofs.inboxes.pop_last.Goals as goal

pub returns-clause-sender : goal.returns-clause-sender
returns-clause-sender c = (popped _ _ _ _ _ c.args.place c.pop.ensures.items c.unwrap.ensures c.requires.0 c.requires.1).0

pub returns-clause-rest : goal.returns-clause-rest
returns-clause-rest c = (popped _ _ _ _ _ c.args.place c.pop.ensures.items c.unwrap.ensures c.requires.0 c.requires.1).1
