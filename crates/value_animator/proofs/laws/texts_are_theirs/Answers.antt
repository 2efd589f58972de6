use Rattle.value_animator.proofs.Found.{are_theirs}
use Rattle.value_animator.proofs.laws.texts_are_theirs.Goals as goal

pub returns : goal.returns
returns c = are_theirs
