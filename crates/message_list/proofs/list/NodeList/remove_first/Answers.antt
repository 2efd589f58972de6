use Rattle.std.proofs.Common.{◌≡◌, ◌<◌, List, length, subst, sym, arith}
use lib.ListN.{length-map}
use denote.RawPtr.{Ptr}
use Rattle.message_list.specs.Links.{PlacedNode, linked_items, places_of}
use Rattle.message_list.specs.Marks.{Lead}
use Rattle.message_list.proofs.list.NodeList.remove_first.Goals as goal

pub take_first-linked-requires : goal.take_first-linked-requires
take_first-linked-requires g c =
    let many : length (linked_items c.self.inside.chain) ≡ length c.self.inside.chain = length-map c.self.inside.chain (λ (d : PlacedNode g.row.T.Denot). d.1.item) in
    let some : 0 < length (linked_items c.self.inside.chain) = subst (λ (l : List g.row.T.Denot). 0 < length l) (sym c.self.view_is) c.requires in
    omega arith

pub invariant_of-self : goal.invariant_of-self
invariant_of-self g c =
    (c.take_first-linked.ensures.next, c.pass_first.ensures (places_of c.take_first-linked.new.self) c.take_first-linked.ensures.places.0 (subst (λ (l : List Ptr). Lead c.self.inside.marks l) c.take_first-linked.ensures.places.1 c.self.invariant.1))
