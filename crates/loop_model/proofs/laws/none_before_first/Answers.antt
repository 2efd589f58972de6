use Rattle.loop_model.proofs.FirstLaws.{none_before_first}
use Rattle.loop_model.proofs.laws.none_before_first.Goals as goal

pub returns : goal.returns
returns c = none_before_first
