use Rattle.value_animator.proofs.Going.{runs_begin}
use Rattle.value_animator.proofs.laws.runs_begin.Goals as goal

pub returns : goal.returns
returns c = runs_begin
