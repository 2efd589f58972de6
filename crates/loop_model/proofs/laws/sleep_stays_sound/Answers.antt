use Rattle.loop_model.proofs.SleepLaws.{is_sound_sleep-snoc}
use Rattle.loop_model.proofs.laws.sleep_stays_sound.Goals as goal

pub returns : goal.returns
returns c = is_sound_sleep-snoc
