use Rattle.std.proofs.Common.{◌≡◌, ℕ}
use Rattle.dash_script.specs.declared.script.Script.{Script}
use Rattle.dash_stage.specs.declared.stage.Stage.{Stage}
use Rattle.dash_stage.specs.Controllers.{IsQuitting}
use Rattle.dash_stage.specs.Stages.{IsStage}
use Rattle.dash_stage.specs.Timeliness.{EachTurnsOn, MovesNot}
use Rattle.dash_stage.proofs.Stages.StageTurns.{AreKeptFrom, AreKeptWhereEnded}
use Rattle.dash_stage.proofs.stage.Stage.quit_others.Given as goal

-- the loopers below this one, but main, were quit where they haven't ended
pub record HasQuit (s : Script) (n : ℕ) (first now : Stage) : Type 0 where
  pub stage : IsStage s now
  pub threads : now.threads.items ≡ first.threads.items
  pub loopers : now.loopers.items ≡ first.loopers.items
  pub same_time : now.time ≡ first.time
  pub quitting : IsQuitting s n now.controller
  pub turns : EachTurnsOn MovesNot first.controller now.controller
  pub rest : AreKeptFrom n first.controller now.controller
  pub ended : AreKeptWhereEnded first.loopers.items first.controller now.controller

abbrev pub invariant-loop-looper : goal.invariant-loop-looper
invariant-loop-looper g l = HasQuit l.script l.looper l.initial.self l.self
