use Rattle.std.proofs.Common.{subst, sym, ◌∙◌}
use Rattle.queue_state.specs.Queue.{Queue}
use Rattle.shared_queue.specs.Calls.{PostedBy}
use Rattle.shared_queue.proofs.Desks.{lent}
use Rattle.shared_queue.proofs.Knows.{known}
use Rattle.shared_queue.proofs.Quiet.{quiet, quiet_posts}
use Rattle.shared_queue.proofs.TurnCalls.{posting, end_may_come, is_one_turn, posted_by}
use Rattle.shared_queue.proofs.poster.Poster.post.Goals as goal

pub end_owing-owing-requires-clause-turn : goal.end_owing-owing-requires-clause-turn
end_owing-owing-requires-clause-turn g c κs within =
    end_may_come (posting c.args.node c.post-answer.result c.requires.target) c.args.queue.now.constants c.self.inside.desk c.begin-state.new.self c.value_mut.result.now c.post-answer.new.self (lent _ _ _ _ _ c.value_mut.ensures.value c.begin-state.ensures) c.post-answer.ensures

pub end_owing-owing-requires-clause-quiet : goal.end_owing-owing-requires-clause-quiet
end_owing-owing-requires-clause-quiet g c κs within none =
    let x : Queue g.row.K-Home.Denot g.row.K.Denot = c.value_mut.result.now in
    let y : Queue g.row.K-Home.Denot g.row.K.Denot = c.post-answer.new.self in
    quiet c.args.queue.now.constants c.self.inside.desk c.begin-state.new.self x y (lent _ _ _ _ _ c.value_mut.ensures.value c.begin-state.ensures)
    (quiet_posts x y c.begin-state.new.self.sender c.args.node c.post-answer.result c.post-answer.ensures none)

pub returns : goal.returns
returns g c =
    subst (PostedBy c.args.self.now (known c.end_owing-owing.new.self) c.args.node) (sym (c.settle.ensures ∙ c.end_owing-owing.ensures.answer))
    (posted_by c.args.self.now (known c.end_owing-owing.new.self) c.args.node c.post-answer.result c.requires.target
    (is_one_turn (posting c.args.node c.post-answer.result c.requires.target) c.args.queue.now.constants c.self.inside.desk c.begin-state.new.self c.value_mut.result.now c.post-answer.new.self (lent _ _ _ _ _ c.value_mut.ensures.value c.begin-state.ensures) c.post-answer.ensures c.end_owing-owing.new.self c.self.view_is c.self.invariant c.end_owing-owing.ensures.ended))
