use Rattle.loop_model.proofs.WellFormedLaws.{in_order_pairs}
use Rattle.loop_model.proofs.laws.list_is_in_order.Goals as goal

pub returns : goal.returns
returns c = in_order_pairs
