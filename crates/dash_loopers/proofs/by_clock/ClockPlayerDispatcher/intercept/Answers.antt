use Rattle.looper_run.specs.Holding.{held}
use Rattle.std.proofs.Common.{refl}
use Rattle.looper_run.proofs.Keeping.{lent_nothing}
use Rattle.looper_run.proofs.Asking.{unless_weaker}
use Rattle.loop_model.specs.declared.journal.Route.TheVariants.{Intercepted}
use Rattle.dash_loopers.proofs.LooperPlaying.{intercepted}
use Rattle.dash_loopers.proofs.LooperMoments.{delivery_at}
use Rattle.dash_loopers.proofs.by_clock.ClockPlayerDispatcher.intercept.Goals as goal

pub returns-then-not-intercepts-clause-keeps : goal.returns-then-not-intercepts-clause-keeps
returns-then-not-intercepts-clause-keeps g c = lent_nothing _ _ _ _ c.args.self.now c.args.self.now c.args.own.now (λ w h. h) refl refl refl

pub returns-clause-routed : goal.returns-clause-routed
returns-clause-routed g c =
    let p = c.args.self.now in
    let done = c.deliver_and_ring.ensures in
    intercepted c.did.result _ _ c.did.ensures.no (
    unless_weaker _ _ c.did.result (λ h. record { awaits = refl; meets = h })
    (delivery_at (g.C.Clock.shows p.timer.now.clock.now) p.timer.now.start p.place.script.now p.place.hall.now p.place.looper p.began.now.value c.args.m.now c.args.now c.moment_for-at.result Intercepted c.as_post-p.result c.deliver_and_ring.result c.did.result
    (held c.args.own.now) (held c.deliver_and_ring.new.own) p.parts c.deliver_and_ring.new.parts c.requires.ready.serves c.as_post-p.ensures c.moment_for-at.ensures.rules c.moment_for-at.ensures.read done.lent done.clocked done.delivers c.requires.ready.taken c.did.ensures.no c.did.ensures.yes))
