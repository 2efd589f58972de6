use Rattle.std.proofs.Common.{◌≡◌, ap, sym, ◌∙◌}
use Rattle.queue_state.specs.Queue.{Queue, is_idle_at}
use Rattle.shared_queue.proofs.Whole.{idle_alike}
use Rattle.shared_queue.proofs.Quiet.{quiet}
use Rattle.shared_queue.proofs.Still.{still_may_end, is_still_turn}
use Rattle.shared_queue.proofs.poster.Poster.is_idle.Goals as goal

pub end-requires-clause-turn : goal.end-requires-clause-turn
end-requires-clause-turn g c κs within = still_may_end c.args.queue.now.constants c.self.inside.desk c.begin-state.new.self c.begin-state.result c.begin-state.ensures

pub end-requires-clause-quiet : goal.end-requires-clause-quiet
end-requires-clause-quiet g c κs within =
    quiet c.args.queue.now.constants c.self.inside.desk c.begin-state.new.self c.begin-state.result c.begin-state.result c.begin-state.ensures (λ woken. woken)

pub returns : goal.returns
returns g c =
    is_still_turn c.args.queue.now.constants c.self.inside.desk c.begin-state.new.self c.begin-state.result c.begin-state.ensures c.end.new.self c.self.view_is c.self.invariant c.end.ensures
    (λ (v : Queue g.row.K-Home.Denot g.row.K.Denot). c.is_idle-answer.result ≡ is_idle_at v c.args.now)
    (λ past leave. c.is_idle-answer.ensures ∙ ap (λ (v : Queue g.row.K-Home.Denot g.row.K.Denot). is_idle_at v c.args.now) c.value.ensures
    ∙ sym (idle_alike past c.begin-state.result leave c.args.now))
