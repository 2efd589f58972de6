use Rattle.loop_model.proofs.StepLaws.{live_in_order-quit}
use Rattle.loop_model.proofs.laws.quit_takes_all.Goals as goal

pub returns : goal.returns
returns c = live_in_order-quit
