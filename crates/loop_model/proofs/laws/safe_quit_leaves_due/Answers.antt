use Rattle.loop_model.proofs.StepLaws.{live_in_order-quit_safely}
use Rattle.loop_model.proofs.laws.safe_quit_leaves_due.Goals as goal

pub returns : goal.returns
returns c = live_in_order-quit_safely
