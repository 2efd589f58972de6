use Rattle.loop_model.proofs.StepLaws.{live_in_order-posted}
use Rattle.loop_model.proofs.laws.post_is_inserted.Goals as goal

pub returns : goal.returns
returns c = live_in_order-posted
