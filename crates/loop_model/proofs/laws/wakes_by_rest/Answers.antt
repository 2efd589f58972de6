use Rattle.loop_model.proofs.SleepLaws.{wakes-listed}
use Rattle.loop_model.proofs.laws.wakes_by_rest.Goals as goal

pub returns : goal.returns
returns c = wakes-listed
