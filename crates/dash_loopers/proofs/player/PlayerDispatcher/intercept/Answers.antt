use Rattle.looper_run.specs.Holding.{held}
use Rattle.std.proofs.Common.{refl}
use Rattle.looper_run.proofs.Keeping.{lent_nothing}
use Rattle.looper_run.proofs.Asking.{unless_weaker}
use Rattle.loop_model.specs.declared.journal.Route.TheVariants.{Intercepted}
use Rattle.dash_loopers.proofs.LooperPlaying.{intercepted, dispatches_well}
use Rattle.dash_loopers.proofs.player.PlayerDispatcher.intercept.Goals as goal

pub returns-then-not-intercepts-clause-keeps : goal.returns-then-not-intercepts-clause-keeps
returns-then-not-intercepts-clause-keeps g c = lent_nothing _ _ _ _ c.args.self.now c.args.self.now c.args.own.now (λ w h. h) refl refl refl

pub returns-clause-routed : goal.returns-clause-routed
returns-clause-routed g c =
    let p = c.args.self.now in
    intercepted c.did.result _ _ c.did.ensures.no
    (unless_weaker _ _ c.did.result (λ h. record { awaits = refl; meets = h })
    (dispatches_well p.place.script.now p.place.looper p.now p.began.now.value p.dispatched c.max-self.result c.args.now c.args.m.now Intercepted c.as_post.result c.deliver.result c.did.result (held c.args.own.now) (held c.deliver.new.own) p.parts c.deliver.new.parts c.max-self.ensures c.as_post.ensures c.deliver.ensures.leaves.own.lent c.requires.ready.taken c.deliver.ensures.delivers
    c.did.ensures.no c.did.ensures.yes))
