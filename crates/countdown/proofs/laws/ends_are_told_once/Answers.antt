use Rattle.countdown.proofs.Ends.{ends_are_told_once as told_once}
use Rattle.countdown.proofs.laws.ends_are_told_once.Goals as goal

pub returns : goal.returns
returns c = told_once
