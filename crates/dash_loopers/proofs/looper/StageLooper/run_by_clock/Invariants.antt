use Rattle.std.proofs.Common.{◌≡◌, ℕ, true}
use Rattle.std.specs.Prelude.{◌||◌}
use Rattle.looper_run.specs.Round.{is_ended}
use Rattle.run_model.specs.ByClock.{in_free_mode}
use Rattle.dash_loopers.specs.Loopers.{is_given_up}
use Rattle.dash_loopers.specs.Looped.{HasLooped, HasGoneRound}
use Rattle.dash_loopers.proofs.looper.StageLooper.run_by_clock.Given as goal

abbrev pub invariant-loop : goal.invariant-loop
invariant-loop g l = record {
  looped : HasLooped (in_free_mode (g.C.Clock.shows l.fn.timer.clock.now) l.fn.timer.start) l.fn.script l.fn.hall l.fn.self l.self;
  stays : (is_ended l.fn.self.last || is_given_up l.fn.self.last) ≡ true → l.self ≡ l.fn.self;
  rounds : (n : ℕ) × HasGoneRound (in_free_mode (g.C.Clock.shows l.fn.timer.clock.now) l.fn.timer.start) l.fn.script l.fn.end n l.fn.self l.self;
}
