use Rattle.std.proofs.Common.{sym}
use Rattle.loop_model.specs.Entries.{ends}
use Rattle.trace_check.specs.Ranks.{listed}
use Rattle.trace_check.proofs.Shelving.{all_kept}
use Rattle.trace_check.proofs.items.Items.remove.Goals as goal

pub returns-then-not-may_end-clause-listed : goal.returns-then-not-may_end-clause-listed
returns-then-not-may_end-clause-listed c = sym (all_kept (ends c.args.entry.now) (c.may_end.ensures c.if-not-may_end.true) (listed c.args.self.now))

pub returns-clause-ranked : goal.returns-clause-ranked
returns-clause-ranked c = λ n r. c.take_ended.ensures.ranked n (c.take_first.ensures.ranked n r)
