use Rattle.message_list.specs.Links.{places_of}
use Rattle.message_list.proofs.list.NodeList.forget_marks.Goals as goal

pub invariant_of-self : goal.invariant_of-self
invariant_of-self g c = (c.self.invariant.0, c.clear.ensures (places_of c.self.inside.chain))
