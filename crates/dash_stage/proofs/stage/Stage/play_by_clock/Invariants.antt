use Rattle.run_model.specs.ByClock.{in_free_mode}
use Rattle.dash_stage.specs.RunEnds.{IsClosingByClock}
use Rattle.dash_stage.proofs.stage.Stage.play_by_clock.Given as goal

abbrev pub invariant-loop : goal.invariant-loop
invariant-loop g l = IsClosingByClock (in_free_mode (g.C.Clock.shows l.timer.clock.now) l.timer.start) l.script l.self
