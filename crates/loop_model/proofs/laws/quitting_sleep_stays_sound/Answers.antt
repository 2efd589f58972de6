use Rattle.loop_model.proofs.SleepLaws.{is_sound_sleep-quitting}
use Rattle.loop_model.proofs.laws.quitting_sleep_stays_sound.Goals as goal

pub returns : goal.returns
returns c = is_sound_sleep-quitting
