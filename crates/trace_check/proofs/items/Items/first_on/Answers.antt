use Rattle.std.proofs.Common.{Some, None}
use Rattle.trace_check.proofs.Shelving.{first_on_none, first_on_some}
use Rattle.trace_check.proofs.items.Items.first_on.Goals as goal

pub returns-in_default-clause-found : goal.returns-in_default-clause-found
returns-in_default-clause-found c = λ p all. first_on_none c.args.self.now p c.first.result c.args.ranks.now.keys c.first.ensures.variant c.in_default.is all

pub returns-in_default-get-clause-found : goal.returns-in_default-get-clause-found
returns-in_default-get-clause-found c = λ p all. first_on_some c.args.self.now p c.in-Some.rank.now c.args.ranks.now.keys None c.requires c.in-Some.ensures.first c.in_default-get.ensures.value all

pub returns-clause-found : goal.returns-clause-found
returns-clause-found c = λ p all. first_on_some c.args.self.now p c.in-Some.rank.now c.args.ranks.now.keys (Some c.in-Some-get.item.now) c.requires c.in-Some.ensures.first c.in-Some-get.ensures.value all
