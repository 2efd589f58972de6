use Rattle.std.proofs.Common.{◌≡◌, ◌≤◌, List, length, subst, sym, arith}
use lib.ListN.{length-map}
use Rattle.message_list.specs.Links.{PlacedNode, linked_items, places_of}
use Rattle.message_list.proofs.list.NodeList.split_off.Goals as goal

pub split_off-chain-requires : goal.split_off-chain-requires
split_off-chain-requires g c =
    let many : length (linked_items c.self.inside.chain) ≡ length c.self.inside.chain = length-map c.self.inside.chain (λ (d : PlacedNode g.row.T.Denot). d.1.item) in
    let within : c.args.i ≤ length (linked_items c.self.inside.chain) = subst (λ (l : List g.row.T.Denot). c.args.i ≤ length l) (sym c.self.view_is) c.requires in
    let some = c.if-i-eq0.false in let other = c.if-i-len.false in let all = c.len.ensures in
    (omega arith, omega arith, c.find_near-place.ensures (omega arith))

pub invariant_of-self : goal.invariant_of-self
invariant_of-self g c = (c.self.invariant.0, c.clear.ensures (places_of c.self.inside.chain))

pub invariant_of-self-2 : goal.invariant_of-self-2
invariant_of-self-2 g c = let all = c.len-self-inside.ensures in (λ lt. absurd (omega (arith, lt)), c.clear.ensures (places_of c.split_off-chain.new.self))

pub invariant_of-result : goal.invariant_of-result
invariant_of-result g c = (c.head-at.ensures, c.new.ensures (places_of c.split_off-chain.result))
