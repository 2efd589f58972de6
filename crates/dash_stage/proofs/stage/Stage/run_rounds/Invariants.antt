use Rattle.dash_script.specs.declared.script.Script.{Script}
use Rattle.dash_stage.specs.declared.side.Turn.{Turn}
use Rattle.dash_stage.specs.declared.stage.Stage.{Stage}
use Rattle.dash_stage.specs.Sharing.{HaveSeenTheSame}
use Rattle.dash_stage.specs.Steps.{StaysAt, StandsStill}
use Rattle.dash_stage.specs.Turns.{AwaitTheirTurn}
use Rattle.dash_stage.proofs.stage.Stage.run_rounds.Given as goal

pub record RanRounds (turn : Turn) (s : Script) (before after : Stage) : Type 0 where
  pub still : StandsStill s before after
  pub at : StaysAt s before after
  pub others : AwaitTheirTurn turn before.loopers.items after.loopers.items
  pub same : HaveSeenTheSame before → HaveSeenTheSame after

abbrev pub invariant-loop : goal.invariant-loop
invariant-loop g l = RanRounds l.turn l.script l.initial.self l.self
