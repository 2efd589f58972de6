use Rattle.std.proofs.Common.{◌≡◌, ◌≤◌, List, length, subst, sym, arith}
use lib.ListN.{length-map}
use denote.RawPtr.{Ptr}
use Rattle.message_list.specs.Links.{PlacedNode, linked_items, places_of}
use Rattle.message_list.specs.Marks.{Lead}
use Rattle.message_list.proofs.Marked.{many_places}
use Rattle.message_list.proofs.list.NodeList.insert_at.Goals as goal

pub invariant_of-self : goal.invariant_of-self
invariant_of-self g c =
    let cs = c.self.inside.chain in
    let many : length (linked_items c.self.inside.chain) ≡ length c.self.inside.chain = length-map c.self.inside.chain (λ (d : PlacedNode g.row.T.Denot). d.1.item) in
    let within : c.args.i ≤ length (linked_items c.self.inside.chain) = subst (λ (l : List g.row.T.Denot). c.args.i ≤ length l) (sym c.self.view_is) c.requires.0 in
    let places : length (places_of cs) ≡ length cs = many_places cs in let long = c.len-len.ensures in
    (λ _. c.insert-self-inside.ensures.at, subst (λ (l : List Ptr). Lead c.raise.new.self l) (sym c.insert-self-inside.ensures.places.1) (c.raise.ensures (places_of cs) c.insert-self-inside.ensures.places.0 (omega arith) (omega arith) c.self.invariant.1))
