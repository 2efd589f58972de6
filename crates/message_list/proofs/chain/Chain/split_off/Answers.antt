use Rattle.std.proofs.Common.{◌≡◌, ℕ, ◌<◌, ◌-◌, List, length, take, drop, subst, sym, ap, ◌∙◌, arith}
use Rattle.message_list.specs.Links.{PlacedNode, IsChained, linked_items}
use Rattle.message_list.proofs.Chained.{front_chained, rest_chained, items_front, items_rest, length_front, length_rest}
use Rattle.message_list.proofs.chain.Chain.split_off.Goals as goal

pub at-requires : goal.at-requires
at-requires g c = rw c.self.view_is c.requires.2

pub split_off-store-requires : goal.split_off-store-requires
split_off-store-requires g c = let high : c.args.i < length c.self.inside.store.cells = rw c.self.view_is c.requires.1 in omega arith

pub invariant_of-self : goal.invariant_of-self
invariant_of-self g c =
    let cs : List (PlacedNode g.row.T.Denot) = c.self.inside.store.cells in let i : ℕ = c.args.i in
    let high : i < length cs = rw c.self.view_is c.requires.1 in
    subst (λ (l : List (PlacedNode g.row.T.Denot)). (i ≡ length l) × IsChained c.self.inside.head.ptr c.at.result.now.prev.ptr l) (sym c.split_off-store.ensures.0)
    (length_front cs i (omega arith), front_chained c.self.inside.head.ptr c.self.inside.tail.ptr c.args.place.ptr c.at.result.now cs i c.self.invariant.1 c.at.ensures)

pub invariant_of-result : goal.invariant_of-result
invariant_of-result g c =
    let cs : List (PlacedNode g.row.T.Denot) = c.self.inside.store.cells in let i : ℕ = c.args.i in
    let high : i < length cs = rw c.self.view_is c.requires.1 in let counted : c.self.inside.len ≡ length cs = c.self.invariant.0 in
    let long = length_rest cs i (omega arith) in let fewer : c.self.inside.len - i ≡ length (drop i cs) = omega arith in
    subst (λ (l : List (PlacedNode g.row.T.Denot)). (c.self.inside.len - i ≡ length l) × IsChained c.args.place.ptr c.self.inside.tail.ptr l) (sym c.split_off-store.ensures.1)
    (fewer, rest_chained c.self.inside.head.ptr c.self.inside.tail.ptr c.args.place.ptr c.at.result.now cs i c.self.invariant.1 c.at.ensures)

pub returns-clause-kept : goal.returns-clause-kept
returns-clause-kept g c =
    ap linked_items c.split_off-store.ensures.0 ∙ items_front c.self.inside.store.cells c.args.i ∙ (λ j. take c.args.i (linked_items (c.self.view_is j)))

pub returns-clause-rest : goal.returns-clause-rest
returns-clause-rest g c =
    ap linked_items c.split_off-store.ensures.1 ∙ items_rest c.self.inside.store.cells c.args.i ∙ (λ j. drop c.args.i (linked_items (c.self.view_is j)))
