use Rattle.std.proofs.Common.{refl, sym, subst}
use Rattle.frame_loop.proofs.Keeping.{handlers_bell, bell_rings, unless_holds}
use Rattle.frame_loop.proofs.dispatching.FrameHandlingDispatcher.pulse.Goals as goal

pub returns-clause-keeps : goal.returns-clause-keeps
returns-clause-keeps g c = bell_rings _ _ _ _ (handlers_bell _ _ _ _ c.deliver_pulse.ensures.keeps c.deliver_pulse.ensures.own)

pub returns-clause-rests : goal.returns-clause-rests
returns-clause-rests g c =
    unless_holds c.did.result _ (record { awaits = subst (λ h. g.H.FrameHandle.Holds h) (sym c.deliver_pulse.ensures.keeps.handlers) c.requires.ready.awaits; meets = refl })
