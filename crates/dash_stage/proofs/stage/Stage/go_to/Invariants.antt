use Rattle.std.proofs.Common.{◌≤◌, ℕ, List}
use Rattle.dash_script.specs.declared.script.Block.{Block}
use Rattle.dash_script.specs.declared.script.Script.{Script}
use Rattle.dash_stage.specs.declared.stage.Stage.{Stage}
use Rattle.dash_stage.specs.Steps.{RestsAt, TimeLiesAhead, IsUnderWay}
use Rattle.dash_stage.proofs.stage.Stage.go_to.Given as goal

pub record IsGoing (s : Script) (time : ℕ) (first now : Stage) : Type 0 where
  pub way : IsUnderWay s now
  pub within : now.time ≤ time
  pub rests : (past : List Block) → RestsAt s past first → RestsAt s past now
  pub before : (past : List Block) → RestsAt s past first → TimeLiesAhead s past time first → TimeLiesAhead s past time now

abbrev pub invariant-loop : goal.invariant-loop
invariant-loop g l = IsGoing l.script l.time l.initial.self l.self
