use Rattle.std.proofs.Common.{refl}
use Rattle.looper_run.specs.Holding.{held}
use Rattle.looper_run.proofs.Working.{lent_self}
use Rattle.looper_run.proofs.Asking.{unless_weaker}
use Rattle.plain_loop.proofs.Lending.{lent_quietly}
use Rattle.plain_loop.proofs.Looping.{did_unless}
use Rattle.plain_loop.proofs.value_handlers.HandlingValuesDispatcher.run_callback.Goals as goal

pub returns-clause-keeps : goal.returns-clause-keeps
returns-clause-keeps g c = lent_quietly _ _ _ _ c.args.self.now _ c.args.own.now _ (λ w h. h) refl refl refl (record { poster = refl; pass = refl; journal = refl }) (c.run_callback.ensures.keeps.lent (held c.args.own.now) (lent_self (held c.args.own.now), refl))

pub returns-clause-routed : goal.returns-clause-routed
returns-clause-routed g c = unless_weaker _ _ c.did.result (λ h. record { awaits = h; meets = refl }) (did_unless _ _ _ c.did.ensures c.run_callback.ensures.holds)
