use Rattle.std.proofs.Common.{rules, ◌≡◌, length, ◌∷◌, Some, None, ap, sym, ◌∙◌, subst}
use Rattle.atomic_table.specs.Table.{rest}
use Rattle.choreographer.specs.declared.state.StampedFrames.{StampedFrames}
use Rattle.choreographer.specs.declared.view.Constants.{Constants}
use Rattle.choreographer.specs.declared.view.View.{View}
use Rattle.choreographer.specs.Plays.{Sat, FoundSealed, FoundPulse, FoundHeard}
use Rattle.choreographer.specs.Turn.{taking, AsksIfScheduled, SchedulesIfWanted}
use Rattle.choreographer.specs.Known.{HasOwn}
use Rattle.choreographer.proofs.Heard.{own_taken}
use Rattle.choreographer.proofs.Turns.{takes_turn}
use Rattle.choreographer.proofs.table.Choreographer.take.Goals as goal

pub compare_exchange-requires : goal.compare_exchange-requires
compare_exchange-requires g c =
    let m : Sat = c.loop.seat.me in
    let same = c.loop.invariant.2 in
    (search rules, search rules, takes_turn c.self.inside.table.shared.key _ _ m (subst (λ (z : Sat). length z.0.passes ≡ 1) (sym same) c.requires.rests.1))

pub exchange-requires : goal.exchange-requires
exchange-requires g c =
    let won = c.compare_exchange.ensures.2.0 c.if-compare_exchange-eq0.true in
    let carries = ap (λ (z : Sat). z.1) won.1 in
    (search rules, (Some won.0, carries ∙ ap (λ l. (0, Some won.0) ∷ rest l) (sym carries)))

pub returns-then-compare_exchange-eq0-clause-own : goal.returns-then-compare_exchange-eq0-clause-own
returns-then-compare_exchange-eq0-clause-own g c =
    let m : Sat = c.loop.seat.me in
    let won = c.compare_exchange.ensures.2.0 c.if-compare_exchange-eq0.true in
    let n : Sat = c.compare_exchange.new.seat.me in
    let now : c.exchange.new.seat.me.0 ≡ taking m.0 won.0 n.0.heard = ap (λ (z : Sat). z.0) c.exchange.ensures.3 ∙ ap (λ (z : Sat). z.0) won.1 in
    let was : HasOwn m.0 = subst (λ (z : Sat). HasOwn z.0) (sym c.loop.invariant.2) c.requires.own in
    subst HasOwn (sym now) (own_taken m.0 won.0 n.0.heard was won.6)

pub returns-then-compare_exchange-eq0-clause-taken : goal.returns-then-compare_exchange-eq0-clause-taken
returns-then-compare_exchange-eq0-clause-taken g c =
    let won = c.compare_exchange.ensures.2.0 c.if-compare_exchange-eq0.true in
    let same : won.0 ≡ c.unwrap.result = search rules in
    let at = c.loop.invariant.2 in
    let moved = c.exchange.ensures.3 in
    let back = sym (ap (λ (z : Sat). z.0) moved) in
    let none_left = ap (λ (z : Sat). z.1) at ∙ c.requires.rests.0.2 in
    moved ∙ ((λ i. ((won.1 i).0, (0, None) ∷ rest (won.1 i).1)) ∙ (λ i. (taking (at i).0 (same i) (back i).heard, (0, None) ∷ none_left i)))

pub returns-then-compare_exchange-eq0-clause-found : goal.returns-then-compare_exchange-eq0-clause-found
returns-then-compare_exchange-eq0-clause-found g c =
    let key : Constants = c.args.self.now.constants in
    let won = c.compare_exchange.ensures.2.0 c.if-compare_exchange-eq0.true in
    let same : won.0 ≡ c.unwrap.result = search rules in
    let at = c.loop.invariant.2 in
    let moved = sym (ap (λ (z : Sat). z.0) c.exchange.ensures.3) in
    let mine = ap (λ (z : Sat). z.0.constants) at ∙ c.requires.rests.0.0 in record {
      state = search rules;
      stamped = search rules;
      handed = subst (λ (z : StampedFrames × View). FoundSealed key z.1 z.0) (λ i. (same i, (at i).0)) (won.5 key mine);
      heard = subst (λ (z : View × StampedFrames × View). FoundHeard z.0 z.1 z.2.heard) (λ i. ((at i).0, same i, moved i)) won.6;
      latest = subst (λ (z : StampedFrames × View). FoundPulse key z.1 z.0) (λ i. (same i, (at i).0)) (won.7 key mine);
      asks = subst (AsksIfScheduled key) same (won.8 key mine);
      wanted = subst (SchedulesIfWanted key) same (won.9 key mine);
    }
