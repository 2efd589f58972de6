use Rattle.trace_check.proofs.Shelving.{taken_shelved}
use Rattle.trace_check.proofs.items.Items.take_out.Goals as goal

pub returns-clause-indexed : goal.returns-clause-indexed
returns-clause-indexed c =
    record {
      ordered = c.remove-2.ensures.ordered;
      shelved = taken_shelved c.args.self.now.shelves c.remove.new.self c.args.rank c.args.item.now c.args.self.now.by_rank.entries c.remove-2.new.self.entries c.requires.known c.remove-2.ensures.entries c.remove.ensures c.requires.indexed.shelved;
    }
