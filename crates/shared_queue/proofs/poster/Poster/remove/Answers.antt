use Rattle.std.proofs.Common.{subst}
use Rattle.queue_state.specs.Calls.{TakesAtHome}
use Rattle.shared_queue.proofs.Desks.{lent}
use Rattle.shared_queue.proofs.Knows.{known}
use Rattle.queue_state.specs.Queue.{Queue}
use Rattle.shared_queue.proofs.Quiet.{quiet, quiet_takes}
use Rattle.shared_queue.proofs.TurnCalls.{removing, end_may_come, is_one_turn, removal_claims}
use Rattle.shared_queue.proofs.poster.Poster.remove.Goals as goal

pub end-requires-clause-turn : goal.end-requires-clause-turn
end-requires-clause-turn g c κs within =
    end_may_come (removing c.args.filter.now c.remove-answer.result) c.args.queue.now.constants c.self.inside.desk c.begin-state.new.self c.value_mut.result.now c.remove-answer.new.self (lent _ _ _ _ _ c.value_mut.ensures.value c.begin-state.ensures) c.remove-answer.ensures.done

pub end-requires-clause-quiet : goal.end-requires-clause-quiet
end-requires-clause-quiet g c κs within =
    let x : Queue g.row.K-Home.Denot g.row.K.Denot = c.value_mut.result.now in
    let y : Queue g.row.K-Home.Denot g.row.K.Denot = c.remove-answer.new.self in
    quiet c.args.queue.now.constants c.self.inside.desk c.begin-state.new.self x y (lent _ _ _ _ _ c.value_mut.ensures.value c.begin-state.ensures)
    (quiet_takes x y c.begin-state.new.self.sender c.args.filter.now c.remove-answer.result c.remove-answer.ensures.done)

pub returns-clause-done : goal.returns-clause-done
returns-clause-done g c =
    is_one_turn (removing c.args.filter.now c.remove-answer.result) c.args.queue.now.constants c.self.inside.desk c.begin-state.new.self c.value_mut.result.now c.remove-answer.new.self (lent _ _ _ _ _ c.value_mut.ensures.value c.begin-state.ensures) c.remove-answer.ensures.done c.end.new.self c.self.view_is c.self.invariant c.end.ensures

pub returns-clause-claims : goal.returns-clause-claims
returns-clause-claims g c =
    removal_claims c.args.self.now (known c.end.new.self) c.args.filter.now c.remove-answer.result (returns-clause-done g c)

pub returns-clause-home : goal.returns-clause-home
returns-clause-home g c = subst (λ h. TakesAtHome g.K.Claim.home h c.remove-answer.result) (lent _ _ _ _ _ c.value_mut.ensures.value c.begin-state.ensures).own.home c.remove-answer.ensures.home
