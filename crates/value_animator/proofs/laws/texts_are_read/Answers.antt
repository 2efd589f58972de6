use Rattle.line_words.proofs.Refusing.{reads_texts}
use Rattle.value_animator.specs.Reading.{plans}
use Rattle.value_animator.proofs.laws.texts_are_read.Goals as goal

pub returns : goal.returns
returns c = reads_texts plans
