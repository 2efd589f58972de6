use Rattle.dash_script.proofs.Found.{are_theirs}
use Rattle.dash_script.proofs.laws.texts_are_theirs.Goals as goal

pub returns : goal.returns
returns c = are_theirs
