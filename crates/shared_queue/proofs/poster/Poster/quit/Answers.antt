use Rattle.std.proofs.Common.{subst, sym, ◌∙◌}
use Rattle.queue_state.specs.Calls.{QuitsAtHome}
use Rattle.queue_state.specs.Queue.{Queue}
use Rattle.shared_queue.specs.Calls.{QuitBy}
use Rattle.shared_queue.proofs.Desks.{lent}
use Rattle.shared_queue.proofs.Knows.{known}
use Rattle.shared_queue.proofs.Quiet.{quiet, quiet_quits}
use Rattle.shared_queue.proofs.TurnCalls.{quitting, end_may_come, is_one_turn, quit_claims}
use Rattle.shared_queue.proofs.poster.Poster.quit.Goals as goal

pub end_owing-owing-requires-clause-turn : goal.end_owing-owing-requires-clause-turn
end_owing-owing-requires-clause-turn g c κs within =
    end_may_come (quitting c.args.safe c.args.now c.quit-answer.result) c.args.queue.now.constants c.self.inside.desk c.begin-state.new.self c.value_mut.result.now c.quit-answer.new.self (lent _ _ _ _ _ c.value_mut.ensures.value c.begin-state.ensures) c.quit-answer.ensures.done

pub end_owing-owing-requires-clause-quiet : goal.end_owing-owing-requires-clause-quiet
end_owing-owing-requires-clause-quiet g c κs within none =
    let x : Queue g.row.K-Home.Denot g.row.K.Denot = c.value_mut.result.now in
    let y : Queue g.row.K-Home.Denot g.row.K.Denot = c.quit-answer.new.self in
    quiet c.args.queue.now.constants c.self.inside.desk c.begin-state.new.self x y (lent _ _ _ _ _ c.value_mut.ensures.value c.begin-state.ensures)
    (quiet_quits x y c.begin-state.new.self.sender c.args.safe c.args.now c.quit-answer.result c.quit-answer.ensures.done none)

pub returns-clause-done : goal.returns-clause-done
returns-clause-done g c =
    subst (QuitBy c.args.self.now (known c.end_owing-owing.new.self) c.args.safe c.args.now) (sym (c.settle.ensures ∙ c.end_owing-owing.ensures.answer))
    (is_one_turn (quitting c.args.safe c.args.now c.quit-answer.result) c.args.queue.now.constants c.self.inside.desk c.begin-state.new.self c.value_mut.result.now c.quit-answer.new.self (lent _ _ _ _ _ c.value_mut.ensures.value c.begin-state.ensures) c.quit-answer.ensures.done c.end_owing-owing.new.self c.self.view_is c.self.invariant c.end_owing-owing.ensures.ended)

pub returns-clause-claims : goal.returns-clause-claims
returns-clause-claims g c = quit_claims c.args.self.now (known c.end_owing-owing.new.self) c.args.safe c.args.now c.settle.result (returns-clause-done g c)

pub returns-clause-home : goal.returns-clause-home
returns-clause-home g c =
    subst (QuitsAtHome g.K.Claim.home c.args.queue.now.constants.home) (sym (c.settle.ensures ∙ c.end_owing-owing.ensures.answer))
    (subst (λ h. QuitsAtHome g.K.Claim.home h c.quit-answer.result) (lent _ _ _ _ _ c.value_mut.ensures.value c.begin-state.ensures).own.home c.quit-answer.ensures.home)
