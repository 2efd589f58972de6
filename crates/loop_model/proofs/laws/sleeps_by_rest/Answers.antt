use Rattle.loop_model.proofs.SleepLaws.{is_sound_sleep-listed}
use Rattle.loop_model.proofs.laws.sleeps_by_rest.Goals as goal

pub returns : goal.returns
returns c = is_sound_sleep-listed
