use Rattle.loop_model.proofs.FateLaws.{fates_by_number}
use Rattle.loop_model.proofs.laws.fates_by_number.Goals as goal

pub returns : goal.returns
returns c = fates_by_number
