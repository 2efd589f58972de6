use Rattle.loop_model.proofs.FirstLaws.{count_by-listed}
use Rattle.loop_model.proofs.laws.list_holds_live.Goals as goal

pub returns : goal.returns
returns c = count_by-listed
