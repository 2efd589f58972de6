use Rattle.std.proofs.Common.{sym, ◌∙◌, arith}
use Rattle.queue_state.proofs.Histories.{sleeps, live_is}
use Rattle.queue_state.proofs.state.QueueState.history_length.Goals as goal

pub length-requires : goal.length-requires
length-requires g c =
    let x = c.self.inside in
    let bound = c.self.invariant.room.bound in
    omega arith

pub returns-clause-sound : goal.returns-clause-sound
returns-clause-sound g c =
    let h = c.self.invariant.history in
    rw (← c.self.view_is) (record { legal = h.legal; numbered = h.numbered; live = live_is _ _ _ _ h; sleep = sym (sleeps _ _ _ _ _ _ _ h) ∙ c.self.invariant.sleep })
