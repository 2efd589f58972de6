use Rattle.std.proofs.Common.{◌≡◌, ◌≤◌, ℕ}
use Rattle.std.specs.Prelude.{slice_index_or}
use Rattle.looper_run.specs.Holding.{Sender}
use Rattle.dash_stage.specs.Controllers.{IsControllerIn}
use Rattle.dash_stage.specs.GivingUp.{AreRung}
use Rattle.dash_stage.proofs.control.Controller.ring_all.Given as goal

abbrev pub invariant-loop-looper : goal.invariant-loop-looper
invariant-loop-looper g l = record {
  controller : IsControllerIn l.hall.lockstep l.script l.hall l.self;
  rung : AreRung l.looper l.fn.self l.self;
  rest : (q : ℕ) (d : Sender) → l.looper ≤ q → slice_index_or l.self.kit.posters.items q d ≡ slice_index_or l.fn.self.kit.posters.items q d;
}
