use Rattle.std.proofs.Common.{sym, ◌∙◌}
use Rattle.loop_tests.proofs.choreographers.pulse_now.Goals as goal

pub on_vsync-requires-clause-delivers : goal.on_vsync-requires-clause-delivers
on_vsync-requires-clause-delivers g c = λ n named. let both = sym c.requires.pulses ∙ named in absurd (cc (both))
