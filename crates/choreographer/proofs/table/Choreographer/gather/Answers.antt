use Rattle.std.proofs.Common.{rules, ◌≡◌, [], ◌∷◌, length, refl, ap, sym, ◌∙◌, subst, append_assoc, append-nil, arith}
use Rattle.std.specs.Vec.Iter.{into_iter_items}
use Rattle.std.proofs.lemmas.List.{nil_from_length}
use Rattle.choreographer.specs.Turn.{opening_view}
use Rattle.choreographer.specs.Ends.{Gathered}
use Rattle.choreographer.proofs.Turns.{sits}
use Rattle.choreographer.proofs.Gathers.{gathers}
use Rattle.choreographer.proofs.table.Choreographer.gather.Goals as goal

pub load_new_seat-requires : goal.load_new_seat-requires
load_new_seat-requires c = let key = c.self.inside.table.shared.key in (search rules, sits key _ 0 (opening_view key, []) refl)

pub loop-pass-preserved : goal.loop-pass-preserved
loop-pass-preserved c =
    let at = c.loop-pass in
    let p = c.in-Some.pass in
    let steps : into_iter_items at.pass-iterator ≡ p ∷ into_iter_items c.next.new.self = c.in-Some.ensures.steps.0 in (
      append_assoc at.yielded (p ∷ []) _ ∙ rw (← steps) at.invariant.0,
      let was = at.invariant.1 in let gone = c.in-Some.ensures.steps.1 in let short = ap length steps in omega arith,
      c.take_in.ensures.0 ∙ at.invariant.2,
      gathers c.args.self.now at.yielded p at.seat.me c.take_in.new.seat.me at.invariant.3 c.take_in.ensures.1 c.take_in.ensures.2,
    )

pub returns : goal.returns
returns c =
    let at = c.loop-pass in
    let none = c.in-None.ensures.steps in
    let empty : into_iter_items at.pass-iterator ≡ [] = nil_from_length _ (sym at.invariant.1 ∙ none.0) in
    let all = sym (append-nil at.yielded) ∙ rw empty at at.invariant.0 ∙ c.into_iter-pass-iterator.ensures.into_iter_gives.0 in
    (at.invariant.2, subst (λ l. Gathered c.args.self.now l at.seat.me) all at.invariant.3)
