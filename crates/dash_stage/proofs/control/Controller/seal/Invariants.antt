use Rattle.dash_stage.specs.Controllers.{IsController, CallsNone}
use Rattle.dash_stage.specs.Timeliness.{EachTurnsOn, IsNoEntry}
use Rattle.dash_stage.proofs.Stages.StageTurns.{AreKeptFrom}
use Rattle.dash_stage.proofs.control.Controller.seal.Given as goal

abbrev pub invariant-loop-place : goal.invariant-loop-place
invariant-loop-place g l = record {
  controller : IsController l.script l.hall l.self;
  none : CallsNone l.initial.self l.self;
  turns : EachTurnsOn IsNoEntry l.initial.self l.self;
  rest : AreKeptFrom l.place l.initial.self l.self;
}
