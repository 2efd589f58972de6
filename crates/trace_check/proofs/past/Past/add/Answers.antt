use Rattle.trace_check.proofs.past.Past.add.Goals as goal

pub insert-requires-clause-ranked : goal.insert-requires-clause-ranked
insert-requires-clause-ranked c = c.remove.ensures.ranked c.args.self.now.length c.requires.ranked
