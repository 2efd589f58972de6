use Rattle.loop_model.proofs.StepLaws.{ended-dispatched}
use Rattle.loop_model.proofs.laws.dispatch_ends_one.Goals as goal

pub returns : goal.returns
returns c = ended-dispatched
