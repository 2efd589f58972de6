use Rattle.animator.proofs.Ending.{ends_are_told_once}
use Rattle.animator.proofs.laws.ends_are_told_once.Goals as goal

pub returns : goal.returns
returns c = ends_are_told_once
