use Rattle.trace_check.proofs.Shelving.{none_shelved}
use Rattle.trace_check.proofs.items.Items.new.Goals as goal

pub returns-clause-indexed : goal.returns-clause-indexed
returns-clause-indexed c = record { ordered = c.new.ensures.ordered; shelved = none_shelved c.in_ok-shelves.shelves c.new.result.entries c.new.ensures.empty c.in_ok-shelves.ensures }
