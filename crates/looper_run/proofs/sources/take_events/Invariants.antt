use Rattle.std.proofs.Common.{◌≡◌, map}
use Rattle.looper_run.specs.Asked.{Listen, with_asked, TellsOf}
use Rattle.looper_run.specs.Carried.{TellsOn, unasked}
use Rattle.looper_run.proofs.sources.take_events.Given as goal

abbrev pub invariant-loop : goal.invariant-loop
invariant-loop g l =
    TellsOn (TellsOf (λ heard. g.D.Dispatcher.asked l.d ≡ with_asked (g.D.Dispatcher.asked l.initial.d) (map Listen heard)))
    g.D.Dispatcher.Serves g.D.Dispatcher.origin g.D.Dispatcher.nudges unasked g.D.Dispatcher.Awaits g.D.Dispatcher.Meets l.initial.d l.d l.initial.journal l.journal
