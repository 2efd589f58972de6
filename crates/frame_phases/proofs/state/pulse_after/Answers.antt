use Rattle.frame_phases.proofs.Pulses.{computed_is_pulse}
use Rattle.frame_phases.proofs.state.pulse_after.Goals as goal

pub returns-clause-is_pulse : goal.returns-clause-is_pulse
returns-clause-is_pulse c = rw c.saturating_add.ensures (computed_is_pulse c.args.interval c.args.now c.requires)
