use Rattle.std.proofs.Common.{sym, subst}
use Rattle.message_list.specs.declared.marks.Marks.{Marks}
use Rattle.message_list.specs.Links.{places_of}
use Rattle.message_list.specs.Marks.{Lead}
use Rattle.message_list.proofs.list.NodeList.split_front.Goals as goal

pub invariant_of-self : goal.invariant_of-self
invariant_of-self g c = (c.self.invariant.0, subst (λ (m : Marks). Lead m (places_of c.self.inside.chain)) (sym c.replace-marks.ensures.after) (c.new.ensures (places_of c.self.inside.chain)))

pub invariant_of-self-2 : goal.invariant_of-self-2
invariant_of-self-2 g c = (c.self-2.invariant.0, c.clear.ensures (places_of c.self-2.inside.chain))
