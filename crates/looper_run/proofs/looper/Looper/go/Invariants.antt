use Rattle.std.proofs.Common.{ℕ}
use Rattle.looper_run.specs.Carried.{KeepsLooper}
use Rattle.looper_run.specs.Loops.{IsStill, Stepped}
use Rattle.looper_run.specs.Going.{MayLoop}
use Rattle.looper_run.proofs.Bounds.{AreMade}
use Rattle.looper_run.proofs.Sleeping.{Goes}
use Rattle.looper_run.proofs.looper.Looper.go.Given as goal

abbrev pub invariant-loop : goal.invariant-loop
invariant-loop g l = record {
  goes : Goes (g.C.Clock.shows l.by.clock.now) l.by.start l.queue.constants.setting l.initial.self.held l.self.held;
  steps : (n : ℕ) × Stepped (g.C.Clock.shows l.by.clock.now) l.by.start l.by.cap n l.initial.self l.self × AreMade l.fn.most n l.left;
  keeps : KeepsLooper g.D.Dispatcher.Serves g.D.Dispatcher.origin g.D.Dispatcher.nudges g.D.Dispatcher.asked IsStill l.initial.d l.d l.initial.self.held l.self.held;
  may : MayLoop g.D.Dispatcher.Serves g.D.Dispatcher.Awaits g.D.Dispatcher.Meets l.d l.queue l.pool l.self;
}
