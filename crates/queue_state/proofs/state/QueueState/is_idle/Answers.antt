use Rattle.std.proofs.Common.{ap, ◌∙◌, ℕ}
use Rattle.queue_state.specs.Looks.{is_idle}
use Rattle.queue_state.proofs.Nexting.{moment_is}
use Rattle.queue_state.proofs.state.QueueState.is_idle.Goals as goal

pub returns : goal.returns
returns g c = let x = c.self.inside in
    let when = c.moment.ensures ∙ moment_is x.home x.history x.queue x.blocked x.woken x.deadline c.args.now c.self.invariant.history in
    rw (← c.self.view_is) (c.is_idle.ensures ∙ ap (λ (t : ℕ). is_idle t x.queue) when)
