use Rattle.std.proofs.Common.{ap, ◌∙◌, arith}
use lib.ListN.{get_elem?}
use Rattle.message_list.proofs.Chained.{here_put}
use Rattle.message_list.proofs.Placing.{one_put}
use Rattle.message_list.proofs.chain.Chain.put_only.Goals as goal

pub returns-clause-at : goal.returns-clause-at
returns-clause-at g c = (c.args.linked, ap (λ l. get_elem? l 0) c.put-place.ensures ∙ here_put c.self.inside.store.cells 0 (c.put-place.result.ptr, c.args.linked) (omega arith))

pub returns-clause-places : goal.returns-clause-places
returns-clause-places g c = one_put 0 c.self.inside.store.cells _ c.put-place.new.self.cells _ c.put-place.ensures c.self.view_is
