use Rattle.std.proofs.Common.{◌≡◌, ◌+◌, length, arith}
use Rattle.queue_state.specs.Queue.{spare_room}
use Rattle.queue_state.specs.History.{owed}
use Rattle.queue_state.specs.Kept.{view_of}
use Rattle.queue_state.proofs.Seen.{spare_is}
use Rattle.queue_state.proofs.state.QueueState+K+Kept.base.Goals as goal

pub returns-clause-kept : goal.returns-clause-kept
returns-clause-kept g c = rw (← c.self.view_is) c.self.invariant.history.base

pub returns-clause-numbered : goal.returns-clause-numbered
returns-clause-numbered g c = let x = c.self.inside in
    let spare : spare_room (view_of x.home x.history x.queue x.blocked x.woken x.deadline) ≡ length x.queue + owed x.history = spare_is g.K.Claim.home x.home x.history x.queue x.blocked x.woken x.deadline c.self.invariant in
    let bound = c.self.invariant.room.bound in
    rw (← c.self.view_is) (omega arith)
