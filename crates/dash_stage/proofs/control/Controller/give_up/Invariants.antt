use Rattle.std.proofs.Common.{◌≡◌, ◌≤◌, ℕ, true}
use Rattle.std.specs.Prelude.{slice_index_or}
use Rattle.looper_run.specs.Holding.{Sender}
use Rattle.dash_stage.specs.Controllers.{IsControllerIn}
use Rattle.dash_stage.specs.GivingUp.{AreQuitBelow, IsNudged, RingsNoLess}
use Rattle.dash_stage.proofs.control.Controller.give_up.Given as goal

abbrev pub invariant-loop-looper : goal.invariant-loop-looper
invariant-loop-looper g l = record {
  controller : IsControllerIn l.hall.lockstep l.script l.hall l.self;
  some : 1 ≤ l.looper;
  nudged : IsNudged l.fn.self l.self;
  bells : RingsNoLess l.fn.self l.self;
  quit : l.done ≡ true → AreQuitBelow l.looper l.now l.fn.self l.self;
  rest : (q : ℕ) (d : Sender) → l.looper ≤ q → slice_index_or l.self.kit.posters.items q d ≡ slice_index_or l.fn.self.kit.posters.items q d;
}
