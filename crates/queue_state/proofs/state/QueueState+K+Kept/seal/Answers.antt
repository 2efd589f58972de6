use Rattle.std.proofs.Common.{subst}
use Rattle.queue_state.specs.Kept.{view_of}
use Rattle.queue_state.specs.Calls.{Seals}
use Rattle.queue_state.proofs.Sealing.{sealing_kept, sealing_is}
use Rattle.queue_state.proofs.state.QueueState+K+Kept.seal.Goals as goal

pub invariant_of-self : goal.invariant_of-self
invariant_of-self g c =
    let x = c.self.inside in
    sealing_kept g.K.Claim.home x.home x.history c.seal.new.self x.queue x.blocked x.woken x.deadline c.in_ok-items.items.items c.seal.result c.self.invariant c.in_ok-items.ensures c.seal.ensures.sealed c.seal.ensures.none

pub returns : goal.returns
returns g c =
    let x = c.self.inside in
    subst (λ q. Seals q c.seal.result (view_of x.home c.seal.new.self x.queue x.blocked x.woken x.deadline)) c.self.view_is
    (sealing_is g.K.Claim.home x.home x.history c.seal.new.self x.queue x.blocked x.woken x.deadline c.in_ok-items.items.items c.seal.result c.self.invariant c.in_ok-items.ensures c.seal.ensures.part c.seal.ensures.sealed c.seal.ensures.none)
