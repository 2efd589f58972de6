use Rattle.std.proofs.Common.{rules, ◌≡◌, ◌<◌, [], ap, sym, ◌∙◌, subst}
use Rattle.queue_state.specs.Queue.{Queue}
use Rattle.shared_queue.specs.declared.view.View.{View}
use Rattle.shared_queue.specs.Constants.{last_of}
use Rattle.shared_queue.specs.Turn.{holds, handing}
use Rattle.shared_queue.specs.Plays.{Sat, MayHand}
use Rattle.shared_queue.proofs.Turns.{hands_over, carried, same_view}
use Rattle.shared_queue.proofs.queue.SharedQueue.hand.Goals as goal

pub store-requires : goal.store-requires
store-requires g c =
    let M : Type 0 = Sat g.row.K-Home.Denot g.row.K.Denot in
    let V : Type 0 = View (Queue g.row.K-Home.Denot g.row.K.Denot) g.row.K-Home.Denot g.row.K.Denot in
    let m : M = c.exchange.new.seat.me in
    let same : m.0 ≡ c.args.seat.now.me.0 = same_view c.args.seat.now.me m _ c.exchange.ensures.3 in
    let carries = carried c.args.seat.now.me m c.args.state c.exchange.ensures.3 c.requires.turn.1 in (
      search rules,
      search rules,
      hands_over c.self.inside.table.shared.key _ _ m c.args.state carries (ap (λ (v : V). v.has_turn) same ∙ c.requires.turn.0) (search rules) (subst (λ (v : V). 0 < holds (last_of c.self.inside.table.shared.key) v) (sym same) (search rules)) (subst (λ (v : V). MayHand v c.args.state) (sym same) c.requires.state.1),
    )

pub returns : goal.returns
returns g c =
    let M : Type 0 = Sat g.row.K-Home.Denot g.row.K.Denot in
    let V : Type 0 = View (Queue g.row.K-Home.Denot g.row.K.Denot) g.row.K-Home.Denot g.row.K.Denot in
    let m : M = c.exchange.new.seat.me in
    let same : m.0 ≡ c.args.seat.now.me.0 = same_view c.args.seat.now.me m _ c.exchange.ensures.3 in
    let carries = carried c.args.seat.now.me m c.args.state c.exchange.ensures.3 c.requires.turn.1 in
    (search rules, search rules, c.store.ensures.2 c.args.state carries ∙ ap (λ (v : V). (handing v c.args.state, [])) same)
