use Rattle.std.proofs.Common.{◌∙◌}
use Rattle.queue_state.proofs.Seen.{match_is}
use Rattle.queue_state.proofs.state.QueueState.has.Goals as goal

pub returns : goal.returns
returns g c = let x = c.self.inside in
    rw (← c.self.view_is) (c.has.ensures ∙ match_is g.K.Claim.home x.home x.history x.queue x.blocked x.woken x.deadline c.args.filter.now c.self.invariant)
