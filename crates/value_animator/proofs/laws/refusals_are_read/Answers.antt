use Rattle.line_words.proofs.Refusing.{reads_refusals}
use Rattle.value_animator.specs.Reading.{plans}
use Rattle.value_animator.proofs.laws.refusals_are_read.Goals as goal

pub returns : goal.returns
returns c = reads_refusals plans
