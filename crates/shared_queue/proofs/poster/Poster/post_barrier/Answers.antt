use Rattle.shared_queue.proofs.Desks.{lent}
use Rattle.queue_state.specs.Queue.{Queue}
use Rattle.shared_queue.proofs.Quiet.{quiet, quiet_bars}
use Rattle.shared_queue.proofs.TurnCalls.{barring, end_may_come, is_one_turn}
use Rattle.shared_queue.proofs.poster.Poster.post_barrier.Goals as goal

pub end-requires-clause-turn : goal.end-requires-clause-turn
end-requires-clause-turn g c κs within =
    end_may_come (barring c.args.now c.args.node c.post_barrier-answer.result) c.args.queue.now.constants c.self.inside.desk c.begin-state.new.self c.value_mut.result.now c.post_barrier-answer.new.self (lent _ _ _ _ _ c.value_mut.ensures.value c.begin-state.ensures) c.post_barrier-answer.ensures

pub end-requires-clause-quiet : goal.end-requires-clause-quiet
end-requires-clause-quiet g c κs within =
    let x : Queue g.row.K-Home.Denot g.row.K.Denot = c.value_mut.result.now in
    let y : Queue g.row.K-Home.Denot g.row.K.Denot = c.post_barrier-answer.new.self in
    quiet c.args.queue.now.constants c.self.inside.desk c.begin-state.new.self x y (lent _ _ _ _ _ c.value_mut.ensures.value c.begin-state.ensures)
    (quiet_bars x y c.begin-state.new.self.sender c.args.now c.args.node c.post_barrier-answer.result c.post_barrier-answer.ensures)

pub returns : goal.returns
returns g c =
    is_one_turn (barring c.args.now c.args.node c.post_barrier-answer.result) c.args.queue.now.constants c.self.inside.desk c.begin-state.new.self c.value_mut.result.now c.post_barrier-answer.new.self (lent _ _ _ _ _ c.value_mut.ensures.value c.begin-state.ensures) c.post_barrier-answer.ensures c.end.new.self c.self.view_is c.self.invariant c.end.ensures
