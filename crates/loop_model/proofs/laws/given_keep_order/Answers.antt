use Rattle.loop_model.proofs.ListedLaws.{is_before-given}
use Rattle.loop_model.proofs.laws.given_keep_order.Goals as goal

pub returns : goal.returns
returns c = is_before-given
