use Rattle.line_words.proofs.Refusing.{reads_refusals}
use Rattle.dash_script.specs.Accepting.{scripts}
use Rattle.dash_script.proofs.laws.refusals_are_read.Goals as goal

pub returns : goal.returns
returns c = reads_refusals scripts
