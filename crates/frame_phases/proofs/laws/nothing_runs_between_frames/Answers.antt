use Rattle.frame_phases.proofs.EndsOfFrames as law
use Rattle.frame_phases.proofs.laws.nothing_runs_between_frames.Goals as goal

pub returns : goal.returns
returns c = law.nothing_runs_between_frames
