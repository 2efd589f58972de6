use Rattle.std.proofs.Common.{sym, ◌∙◌}
use Rattle.queue_state.proofs.Histories.{sleeps, live_is}
use Rattle.queue_state.proofs.state.QueueState.into_items.Goals as goal

pub returns-clause-sound : goal.returns-clause-sound
returns-clause-sound g c =
    let h = c.self.invariant.history in
    rw (← c.self.view_is) (record { legal = h.legal; numbered = h.numbered; live = live_is _ _ _ _ h; sleep = sym (sleeps _ _ _ _ _ _ _ h) ∙ c.self.invariant.sleep })
