use Rattle.std.proofs.Common.{◌≡◌, ◌<◌, List, length, subst, sym, arith}
use lib.ListN.{length-map}
use denote.RawPtr.{Ptr}
use Rattle.message_list.specs.Links.{PlacedNode, linked_items, places_of}
use Rattle.message_list.specs.Marks.{Lead}
use Rattle.message_list.proofs.Marked.{one_longer, many_places, place_held}
use Rattle.message_list.proofs.list.NodeList.remove_behind.Goals as goal

pub take_behind-linked-requires : goal.take_behind-linked-requires
take_behind-linked-requires g c =
    let many : length (linked_items c.self.inside.chain) ≡ length c.self.inside.chain = length-map c.self.inside.chain (λ (d : PlacedNode g.row.T.Denot). d.1.item) in
    let within : c.args.i < length (linked_items c.self.inside.chain) = subst (λ (l : List g.row.T.Denot). c.args.i < length l) (sym c.self.view_is) c.requires.1 in
    (c.requires.0, omega arith, c.find_near-place.ensures (omega arith))

pub invariant_of-self : goal.invariant_of-self
invariant_of-self g c =
    let few = c.take_behind-linked.new.self in
    let many : length (linked_items c.self.inside.chain) ≡ length c.self.inside.chain = length-map c.self.inside.chain (λ (d : PlacedNode g.row.T.Denot). d.1.item) in
    let within : c.args.i < length (linked_items c.self.inside.chain) = subst (λ (l : List g.row.T.Denot). c.args.i < length l) (sym c.self.view_is) c.requires.1 in
    let longer = one_longer c.args.i few c.self.inside.chain c.take_behind-linked.ensures.places in
    let places : length (places_of few) ≡ length few = many_places few in let long = c.len.ensures in (
      c.take_behind-linked.ensures.next,
      c.lower.ensures (places_of few) c.take_behind-linked.ensures.places.0
          (omega arith, omega arith, λ lt. place_held few c.args.i c.take_behind-linked.result.0.next.ptr (c.take_behind-linked.ensures.next (omega arith)))
          (subst (λ (l : List Ptr). Lead c.self.inside.marks l) c.take_behind-linked.ensures.places.1 c.self.invariant.1),
    )
