use Rattle.loop_model.proofs.StepLaws.{live_in_order-disposed}
use Rattle.loop_model.proofs.laws.disposal_takes_all.Goals as goal

pub returns : goal.returns
returns c = live_in_order-disposed
