use Rattle.std.proofs.Common.{◌≡◌, ◌≤◌, true}
use Rattle.run_model.specs.Moments.{Mode, IsMomentOf}
use Rattle.dash_threads.specs.Threads.{AreByClock}
use Rattle.dash_stage.specs.BehindThreads.{SeesMore}
use Rattle.dash_stage.specs.Controllers.{IsControllerIn, IsQuittingBy}
use Rattle.dash_stage.specs.GivingUp.{RingsNoLess}
use Rattle.dash_stage.proofs.free.quit_others.Given as goal

abbrev pub invariant-loop-looper : goal.invariant-loop-looper
invariant-loop-looper g l = record {
  controller : IsControllerIn l.hall.lockstep l.script l.hall l.controller;
  some : 1 ≤ l.looper;
  quitting : l.done ≡ true → IsQuittingBy l.script l.looper l.controller;
  bells : RingsNoLess l.fn.controller l.controller;
  more : l.done ≡ true → SeesMore l.initial.controller l.controller;
  clocked : l.done ≡ true → (m : Mode) → IsMomentOf m l.now → AreByClock m l.initial.controller.kit.posters.items → AreByClock m l.controller.kit.posters.items;
}
