use Rattle.std.proofs.Common.{subst}
use Rattle.queue_state.specs.Calls.{LooksAtHome}
use Rattle.shared_queue.proofs.Desks.{lent}
use Rattle.shared_queue.proofs.Knows.{known}
use Rattle.queue_state.specs.Queue.{Queue}
use Rattle.shared_queue.proofs.Quiet.{quiet, quiet_looks}
use Rattle.shared_queue.proofs.TurnCalls.{looking, end_may_come, is_one_turn, look_claims}
use Rattle.shared_queue.proofs.poster.Poster.next.Goals as goal

pub end-requires-clause-turn : goal.end-requires-clause-turn
end-requires-clause-turn g c κs within =
    end_may_come (looking c.args.now c.args.idle_owed c.next-answer.result) c.args.queue.now.constants c.self.inside.desk c.begin-state.new.self c.value_mut.result.now c.next-answer.new.self (lent _ _ _ _ _ c.value_mut.ensures.value c.begin-state.ensures) c.next-answer.ensures.done

pub end-requires-clause-quiet : goal.end-requires-clause-quiet
end-requires-clause-quiet g c κs within =
    let x : Queue g.row.K-Home.Denot g.row.K.Denot = c.value_mut.result.now in
    let y : Queue g.row.K-Home.Denot g.row.K.Denot = c.next-answer.new.self in
    quiet c.args.queue.now.constants c.self.inside.desk c.begin-state.new.self x y (lent _ _ _ _ _ c.value_mut.ensures.value c.begin-state.ensures)
    (quiet_looks x y c.begin-state.new.self.sender c.args.now c.args.idle_owed c.next-answer.result c.next-answer.ensures.done)

pub returns-clause-done : goal.returns-clause-done
returns-clause-done g c =
    is_one_turn (looking c.args.now c.args.idle_owed c.next-answer.result) c.args.queue.now.constants c.self.inside.desk c.begin-state.new.self c.value_mut.result.now c.next-answer.new.self (lent _ _ _ _ _ c.value_mut.ensures.value c.begin-state.ensures) c.next-answer.ensures.done c.end.new.self c.self.view_is c.self.invariant c.end.ensures

pub returns-clause-claims : goal.returns-clause-claims
returns-clause-claims g c =
    look_claims c.args.self.now (known c.end.new.self) c.args.now c.args.idle_owed c.next-answer.result (returns-clause-done g c)

pub returns-clause-home : goal.returns-clause-home
returns-clause-home g c = subst (λ h. LooksAtHome g.K.Claim.home h c.next-answer.result) (lent _ _ _ _ _ c.value_mut.ensures.value c.begin-state.ensures).own.home c.next-answer.ensures.home
