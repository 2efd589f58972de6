use Rattle.std.proofs.Common.{◌≡◌, ◌<◌, true, false}
use Rattle.dash_stage.specs.Controllers.{IsController, HasReached}
use Rattle.dash_stage.specs.ControlSteps.{KeepsPace}
use Rattle.dash_stage.specs.Playing.{AreStuck}
use Rattle.dash_stage.specs.Timeliness.{MovesTo}
use Rattle.dash_stage.proofs.Controller.ControlTurns.{TurnsBelow, ComeBelow}
use Rattle.dash_stage.proofs.control.Controller.advance.Given as goal

abbrev pub invariant-loop-place : goal.invariant-loop-place
invariant-loop-place g l = record {
  controller : IsController l.script l.hall l.self;
  pace : KeepsPace l.script l.now l.initial.self l.self;
  turns : TurnsBelow (MovesTo l.now) l.place l.initial.self l.self;
  reached : l.drained ≡ true → 0 < l.place → HasReached l.now l.self;
  come : l.drained ≡ true → ComeBelow l.script l.now l.place l.self;
  stuck : l.drained ≡ false → AreStuck l.script l.now l.place l.self;
}
