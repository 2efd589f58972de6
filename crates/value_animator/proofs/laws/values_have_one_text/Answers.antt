use Rattle.value_animator.proofs.Found.{one_text}
use Rattle.value_animator.proofs.laws.values_have_one_text.Goals as goal

pub returns : goal.returns
returns c = one_text
