use Rattle.loop_model.proofs.FateLaws.{counts_add_up}
use Rattle.loop_model.proofs.laws.fate_counts_add_up.Goals as goal

pub returns : goal.returns
returns c = counts_add_up
