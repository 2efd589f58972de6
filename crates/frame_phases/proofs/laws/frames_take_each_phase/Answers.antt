use Rattle.frame_phases.proofs.EachPhase as law
use Rattle.frame_phases.proofs.laws.frames_take_each_phase.Goals as goal

pub returns : goal.returns
returns c = law.frames_take_each_phase
