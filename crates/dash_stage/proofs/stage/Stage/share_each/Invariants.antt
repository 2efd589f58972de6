use Rattle.dash_stage.specs.Stages.{IsStageIn}
use Rattle.dash_hall.specs.Hearing.{HaveHeard}
use Rattle.dash_stage.specs.Sharing.{StageKeeps}
use Rattle.dash_stage.proofs.Sharing.{ShareFirst}
use Rattle.dash_stage.proofs.stage.Stage.share_each.Given as goal

abbrev pub invariant-loop-looper : goal.invariant-loop-looper
invariant-loop-looper l = IsStageIn l.initial.self.hall.lockstep l.script l.self × StageKeeps HaveHeard l.initial.self l.self × ShareFirst l.looper l.self
