use Rattle.loop_model.proofs.WellFormedLaws.{empty_well_formed}
use Rattle.loop_model.proofs.laws.nothing_is_well_formed.Goals as goal

pub returns : goal.returns
returns c = empty_well_formed
