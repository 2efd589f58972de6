use Rattle.frame_loop.proofs.Keeping.{serves_after, handlers_bell, bell_rings, rings_both}
use Rattle.frame_loop.proofs.dispatching.FrameHandling.deliver.Goals as goal

pub deliver_pulse-requires : goal.deliver_pulse-requires
deliver_pulse-requires g c = record { serves = c.dispatch.ensures.keeps.serves _ (serves_after _ _ _ _ _ _ _ c.dispatch.ensures.keeps.own.lent.same c.requires.serves) }

pub ring-requires : goal.ring-requires
ring-requires g c = record {
  serves = c.deliver_pulse.ensures.keeps.serves _ (serves_after _ _ _ _ _ _ _ c.deliver_pulse.ensures.own.lent.same
      (c.dispatch.ensures.keeps.serves _ (serves_after _ _ _ _ _ _ _ c.dispatch.ensures.keeps.own.lent.same c.requires.serves)));
}

pub returns-in_err-dispatch-clause-keeps : goal.returns-in_err-dispatch-clause-keeps
returns-in_err-dispatch-clause-keeps g c = bell_rings _ _ _ _ c.dispatch.ensures.keeps

pub returns-in_err-deliver_pulse-clause-keeps : goal.returns-in_err-deliver_pulse-clause-keeps
returns-in_err-deliver_pulse-clause-keeps g c =
    rings_both _ _ _ _ _ _ (bell_rings _ _ _ _ c.dispatch.ensures.keeps) (bell_rings _ _ _ _ (handlers_bell _ _ _ _ c.deliver_pulse.ensures.keeps c.deliver_pulse.ensures.own))

pub returns-clause-keeps : goal.returns-clause-keeps
returns-clause-keeps g c =
    rings_both _ _ _ _ _ _
    (rings_both _ _ _ _ _ _ (bell_rings _ _ _ _ c.dispatch.ensures.keeps) (bell_rings _ _ _ _ (handlers_bell _ _ _ _ c.deliver_pulse.ensures.keeps c.deliver_pulse.ensures.own)))
    c.ring.ensures.keeps
