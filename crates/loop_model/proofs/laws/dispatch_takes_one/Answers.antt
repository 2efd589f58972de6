use Rattle.loop_model.proofs.StepLaws.{live_in_order-dispatched}
use Rattle.loop_model.proofs.laws.dispatch_takes_one.Goals as goal

pub returns : goal.returns
returns c = live_in_order-dispatched
