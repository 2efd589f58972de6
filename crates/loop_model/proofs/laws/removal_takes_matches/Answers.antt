use Rattle.loop_model.proofs.StepLaws.{live_in_order-removed}
use Rattle.loop_model.proofs.laws.removal_takes_matches.Goals as goal

pub returns : goal.returns
returns c = live_in_order-removed
