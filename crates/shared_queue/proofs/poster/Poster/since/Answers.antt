use Rattle.std.proofs.Common.{rules, ◌≡◌, length, Some, refl, inl}
use Rattle.queue_state.specs.Queue.{Queue}
use Rattle.shared_queue.proofs.Claims.{keeps_found}
use Rattle.shared_queue.proofs.Knows.{known, found_is}
use Rattle.shared_queue.proofs.Quiet.{quiet}
use Rattle.shared_queue.proofs.Still.{still_may_end, is_still_turn}
use Rattle.shared_queue.proofs.poster.Poster.since.Goals as goal

pub end-requires-clause-turn : goal.end-requires-clause-turn
end-requires-clause-turn g c κs within = still_may_end c.args.queue.now.constants c.self.inside.desk c.begin-state.new.self c.begin-state.result c.begin-state.ensures

pub end-requires-clause-quiet : goal.end-requires-clause-quiet
end-requires-clause-quiet g c κs within =
    quiet c.args.queue.now.constants c.self.inside.desk c.begin-state.new.self c.begin-state.result c.begin-state.result c.begin-state.ensures (λ woken. woken)

pub returns : goal.returns
returns g c =
    let key = c.args.queue.now.constants in
    let x : Queue g.row.K-Home.Denot g.row.K.Denot = c.begin-state.result in
    let found = found_is key c.self.inside.desk c.begin-state.new.self x c.self.invariant c.begin-state.ensures c.end.new.self x (refl, refl, refl, inl refl) (keeps_found c.begin-state.result c.begin-state.result refl) c.end.ensures in
    let answer : c.since-answer.result ≡ length x.entries = search rules in
    is_still_turn key c.self.inside.desk c.begin-state.new.self x c.begin-state.ensures c.end.new.self c.self.view_is c.self.invariant c.end.ensures
    (λ v. (state : Queue g.row.K-Home.Denot g.row.K.Denot) × ((known c.end.new.self).view.found ≡ Some state) × (c.since-answer.result ≡ length state.entries)) (λ past leave. (x, found, answer))
