use Rattle.dash_script.proofs.Checks.{every_form}
use Rattle.dash_script.proofs.laws.every_form_is_accepted.Goals as goal

pub returns : goal.returns
returns c = every_form
