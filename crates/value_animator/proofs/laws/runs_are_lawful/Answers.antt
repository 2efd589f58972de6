use Rattle.value_animator.proofs.Lawful.{runs_are_lawful}
use Rattle.value_animator.proofs.laws.runs_are_lawful.Goals as goal

pub returns : goal.returns
returns c = runs_are_lawful
