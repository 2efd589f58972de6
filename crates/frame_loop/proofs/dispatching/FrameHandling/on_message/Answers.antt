use Rattle.std.proofs.Common.{refl}
use Rattle.looper_run.specs.Holding.{held}
use Rattle.looper_run.proofs.Working.{lent_self}
use Rattle.frame_loop.proofs.Keeping.{asked_still, serves_framed, lent_bell}
use Rattle.frame_loop.proofs.dispatching.FrameHandling.on_message.Goals as goal

pub returns-in-Some-clause-keeps : goal.returns-in-Some-clause-keeps
returns-in-Some-clause-keeps g c = lent_bell _ _ c.args.own.now _ (λ w s. serves_framed _ _ _ _ _ _ _ w refl refl refl (asked_still _ c.run_callback.new.screen c.run_callback.ensures.keeps) s) (record { poster = refl; pass = refl; journal = refl }) (c.run_callback.ensures.keeps.line.lent (held c.args.own.now) (lent_self (held c.args.own.now), refl)) refl

pub returns-in-None-clause-keeps : goal.returns-in-None-clause-keeps
returns-in-None-clause-keeps g c = lent_bell _ _ c.args.own.now _ (λ w s. serves_framed _ _ _ _ _ _ _ w refl refl refl (asked_still _ c.handle.new.screen c.handle.ensures.keeps) s) (record { poster = refl; pass = refl; journal = refl }) (c.handle.ensures.keeps.line.lent (held c.args.own.now) (lent_self (held c.args.own.now), refl)) refl
