use Rattle.std.proofs.Common.{refl}
use Rattle.looper_run.specs.Holding.{held}
use Rattle.loop_model.specs.declared.journal.Route.TheVariants.{Handled}
use Rattle.looper_run.proofs.Asking.{unless_weaker}
use Rattle.dash_loopers.proofs.LooperMoments.{delivery_at}
use Rattle.dash_loopers.proofs.by_clock.ClockPlayerDispatcher.handle.Goals as goal

pub returns-clause-routed : goal.returns-clause-routed
returns-clause-routed g c =
    let p = c.args.self.now in
    let done = c.deliver.ensures in
    unless_weaker _ _ c.did.result (λ h. record { awaits = refl; meets = h })
    (delivery_at (g.C.Clock.shows p.timer.now.clock.now) p.timer.now.start p.place.script.now p.place.hall.now p.place.looper p.began.now.value c.args.m.now c.args.now c.moment_for-at.result Handled c.as_post-p.result c.deliver.result c.did.result
    (held c.args.own.now) (held c.deliver.new.own) p.parts c.deliver.new.parts c.requires.ready.serves c.as_post-p.ensures c.moment_for-at.ensures.rules c.moment_for-at.ensures.read done.leaves.own.lent done.clocked done.delivers c.requires.ready.taken c.did.ensures.no c.did.ensures.yes)
