use Rattle.message_list.specs.Links.{places_of}
use Rattle.message_list.proofs.Marked.{held_place}
use Rattle.message_list.proofs.list.NodeList.seek_mark.Goals as goal

pub invariant_of-self : goal.invariant_of-self
invariant_of-self g c =
    let cs = c.self.inside.chain in
    (λ lt. held_place cs c.in-Some.here c.in-Some.at.ptr (c.in-Some.ensures.leads (places_of cs) c.self.invariant.1), c.find.ensures.kept (places_of cs) c.self.invariant.1)
