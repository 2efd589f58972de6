use Rattle.dash_hall.specs.Hearing.{AreKept}
use Rattle.dash_stage.specs.Stages.{IsStageIn}
use Rattle.dash_stage.specs.Sharing.{StageKeeps}
use Rattle.dash_stage.proofs.Sharing.{HaveHeardFirst}
use Rattle.dash_stage.proofs.stage.Stage.share_frames.Given as goal

abbrev pub invariant-loop-looper : goal.invariant-loop-looper
invariant-loop-looper l = IsStageIn l.initial.self.hall.lockstep l.script l.self × StageKeeps AreKept l.initial.self l.self × HaveHeardFirst l.looper l.self
