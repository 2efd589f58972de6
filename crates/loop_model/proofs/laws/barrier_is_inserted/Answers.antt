use Rattle.loop_model.proofs.StepLaws.{live_in_order-barred}
use Rattle.loop_model.proofs.laws.barrier_is_inserted.Goals as goal

pub returns : goal.returns
returns c = live_in_order-barred
