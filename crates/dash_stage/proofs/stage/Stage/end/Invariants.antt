use Rattle.dash_script.specs.declared.script.Script.{Script}
use Rattle.dash_stage.specs.declared.stage.Stage.{Stage}
use Rattle.dash_stage.specs.Controllers.{IsClosing}
use Rattle.dash_stage.specs.Stages.{IsStage, OthersHaveEnded}
use Rattle.dash_stage.specs.Steps.{StaysFromRest}
use Rattle.dash_stage.proofs.stage.Stage.end.Given as goal

-- the others were quit, and main is still to be halted
pub record Closes (s : Script) (first now : Stage) : Type 0 where
  pub stage : IsStage s now
  pub closing : IsClosing s now.controller
  pub at : StaysFromRest s first now

-- and the others have ended
pub record Drains (s : Script) (first now : Stage) : Type 0 where
  pub closes : Closes s first now
  pub ended : OthersHaveEnded now.loopers.items

abbrev pub invariant-loop : goal.invariant-loop
invariant-loop g l = Closes l.script l.fn.self l.self

abbrev pub invariant-loop-2 : goal.invariant-loop-2
invariant-loop-2 g l = Drains l.script l.fn.self l.self
