use Rattle.trace_check.proofs.Ranked.{all_ranked_more}
use Rattle.trace_check.proofs.past.Past.insert.Goals as goal

pub returns-in_default-clause-ranked : goal.returns-in_default-clause-ranked
returns-in_default-clause-ranked c = all_ranked_more c.args.self.now.length c.args.self.now.items.by_rank.entries c.requires.ranked
