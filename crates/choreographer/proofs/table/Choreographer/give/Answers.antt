use Rattle.std.proofs.Common.{rules, ◌≡◌, ◌∷◌, [], Some, ap, sym, ◌∙◌, subst}
use Rattle.atomic_table.specs.Table.{rest}
use Rattle.choreographer.specs.declared.view.Constants.{Constants}
use Rattle.choreographer.specs.declared.view.View.{View}
use Rattle.choreographer.specs.Turn.{giving, AsksIfScheduled, SchedulesIfWanted}
use Rattle.choreographer.specs.Plays.{Sat, MayGive, MaySeal, MayPulse}
use Rattle.choreographer.specs.Known.{SharedFrames, HasOwn}
use Rattle.choreographer.proofs.Turns.{gives_turn}
use Rattle.choreographer.proofs.ByTurn.{own_given}
use Rattle.choreographer.proofs.table.Choreographer.give.Goals as goal

pub store-requires : goal.store-requires
store-requires c =
    let m : Sat = c.exchange.new.seat.me in
    let same : m.0 ≡ c.args.seat.now.me.0 = ap (λ (z : Sat). z.0) c.exchange.ensures.3 in
    let carries : m.1 ≡ (0, Some c.args.state) ∷ [] = ap (λ (z : Sat). z.1) c.exchange.ensures.3 ∙ ap (λ l. (0, Some c.args.state) ∷ rest l) c.requires.turn.2 in (
      search rules,
      search rules,
      gives_turn c.self.inside.table.shared.key _ _ m c.args.state carries (ap (λ (v : View). v.has_turn) same ∙ c.requires.turn.1) (search rules) c.requires.leaves.stamped
          (subst (λ (k : Constants). AsksIfScheduled k c.args.state) (ap (λ (z : SharedFrames). z.constants) (sym c.self.view_is)) c.requires.leaves.asks)
          (subst (λ (k : Constants). SchedulesIfWanted k c.args.state) (ap (λ (z : SharedFrames). z.constants) (sym c.self.view_is)) c.requires.leaves.wanted)
          (subst (λ (z : Constants × View). MaySeal z.0 z.1 c.args.state) (λ i. (ap (λ (z : SharedFrames). z.constants) (sym c.self.view_is) i, sym same i)) c.requires.leaves.handed)
          (subst (λ (z : Constants × View). MayPulse z.0 z.1 c.args.state) (λ i. (ap (λ (z : SharedFrames). z.constants) (sym c.self.view_is) i, sym same i)) c.requires.leaves.latest)
          (subst (λ (v : View). MayGive v c.args.state) (sym same) c.requires.leaves.state.1),
    )

pub returns : goal.returns
returns c =
    let m : Sat = c.exchange.new.seat.me in
    let same : m.0 ≡ c.args.seat.now.me.0 = ap (λ (z : Sat). z.0) c.exchange.ensures.3 in
    let carries : m.1 ≡ (0, Some c.args.state) ∷ [] = ap (λ (z : Sat). z.1) c.exchange.ensures.3 ∙ ap (λ l. (0, Some c.args.state) ∷ rest l) c.requires.turn.2 in
    let left : c.store.new.seat.me ≡ (giving c.args.seat.now.me.0 c.args.state, []) = c.store.ensures.2 c.args.state carries ∙ ap (λ (v : View). (giving v c.args.state, [])) same in
    let own = own_given c.args.self.now.constants c.args.seat.now.me.0 c.args.state c.requires.turn.0 c.requires.own c.requires.leaves.state.1.0 c.requires.leaves.handed in
    (search rules, search rules, left, subst (λ (z : Sat). HasOwn z.0) (sym left) own)
