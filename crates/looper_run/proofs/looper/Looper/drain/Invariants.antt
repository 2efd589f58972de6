use Rattle.looper_run.specs.Carried.{KeepsLooper}
use Rattle.looper_run.specs.Going.{MayGoOn}
use Rattle.looper_run.specs.Tests.{IsSameLooper}
use Rattle.looper_run.proofs.Rounds.{IsGoing}
use Rattle.looper_run.proofs.looper.Looper.drain.Given as goal

abbrev pub invariant-loop : goal.invariant-loop
invariant-loop g l = record {
  goes : IsGoing l.queue l.now l.initial.self l.self l.dispatched;
  keeps : KeepsLooper g.D.Dispatcher.Serves g.D.Dispatcher.origin g.D.Dispatcher.nudges g.D.Dispatcher.asked IsSameLooper l.initial.d l.d l.initial.self.held l.self.held;
  may : MayGoOn g.D.Dispatcher.Serves g.D.Dispatcher.Awaits g.D.Dispatcher.Meets l.d l.queue l.pool l.self;
}
