use Rattle.loop_model.proofs.StepLaws.{live_in_order-unbarred}
use Rattle.loop_model.proofs.laws.unbarrier_takes_one.Goals as goal

pub returns : goal.returns
returns c = live_in_order-unbarred
