use Rattle.loop_model.proofs.FateLaws.{fates_counted}
use Rattle.loop_model.proofs.laws.one_fate_each.Goals as goal

pub returns : goal.returns
returns c = fates_counted
