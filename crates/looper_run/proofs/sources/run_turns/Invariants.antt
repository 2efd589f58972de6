use Rattle.looper_run.specs.Acts.{IsIdleAct, GrowsBy}
use Rattle.looper_run.specs.Carried.{TellsOn}
use Rattle.looper_run.proofs.sources.run_turns.Given as goal

abbrev pub invariant-loop-turn : goal.invariant-loop-turn
invariant-loop-turn g l =
    TellsOn (GrowsBy IsIdleAct) g.D.Dispatcher.Serves g.D.Dispatcher.origin g.D.Dispatcher.nudges g.D.Dispatcher.asked g.D.Dispatcher.Awaits g.D.Dispatcher.Meets l.initial.d l.d l.initial.journal l.journal
