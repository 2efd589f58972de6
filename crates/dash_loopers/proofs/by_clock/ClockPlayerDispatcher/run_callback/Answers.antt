use Rattle.std.proofs.Common.{refl}
use Rattle.looper_run.specs.Holding.{held}
use Rattle.looper_run.proofs.Keeping.{lent_nothing}
use Rattle.dash_loopers.proofs.LooperMoments.{callback_at}
use Rattle.dash_loopers.proofs.by_clock.ClockPlayerDispatcher.run_callback.Goals as goal

pub returns-then-is_stopped-clause-keeps : goal.returns-then-is_stopped-clause-keeps
returns-then-is_stopped-clause-keeps g c = lent_nothing _ _ _ _ c.args.self.now c.args.self.now c.args.own.now (λ w h. h) refl refl refl

pub returns-clause-keeps : goal.returns-clause-keeps
returns-clause-keeps g c = lent_nothing _ _ _ _ c.args.self.now c.args.self.now c.args.own.now (λ w h. h) refl refl refl

pub returns-clause-routed : goal.returns-clause-routed
returns-clause-routed g c =
    let p = c.args.self.now in
    record { awaits = refl; meets = callback_at (g.C.Clock.shows p.timer.now.clock.now) p.timer.now.start p.place.script.now p.place.looper p.began.now.value c.args.m.now c.args.now c.args.id (held c.args.own.now) p.parts c.requires.ready.taken c.requires.ready.callback }
