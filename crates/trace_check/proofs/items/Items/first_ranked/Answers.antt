use Rattle.std.proofs.Common.{◌∙◌, sym}
use Rattle.trace_check.specs.Ranks.{listed}
use Rattle.trace_check.proofs.Ranked.{first_of_none, first_behind, first_head}
use Rattle.trace_check.proofs.items.Items.first_ranked.Goals as goal

pub returns-in_default-clause-item : goal.returns-in_default-clause-item
returns-in_default-clause-item c = first_of_none (listed c.args.self.now) (sym c.in_default.ensures.item)

pub returns-then-is_barrier-clause-item : goal.returns-then-is_barrier-clause-item
returns-then-is_barrier-clause-item c = c.first_asynchronous.ensures.item ∙ first_behind (listed c.args.self.now) c.in-Some.item (sym c.in-Some.ensures.item) (sym c.if-is_barrier.ensures)

pub returns-clause-item : goal.returns-clause-item
returns-clause-item c = first_head (listed c.args.self.now) c.in-Some.item (sym c.in-Some.ensures.item) (sym c.if-is_barrier.ensures)
