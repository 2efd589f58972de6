use Rattle.loop_model.proofs.StepLaws.{ended-unbarred}
use Rattle.loop_model.proofs.laws.unbarrier_ends_one.Goals as goal

pub returns : goal.returns
returns c = ended-unbarred
