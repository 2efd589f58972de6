use Rattle.std.proofs.Common.{arith}
use Rattle.message_list.specs.Links.{places_of}
use Rattle.message_list.proofs.Marked.{place_held}
use Rattle.message_list.proofs.list.NodeList.mark.Goals as goal

pub invariant_of-self : goal.invariant_of-self
invariant_of-self g c =
    let cs = c.self.inside.chain in let some = c.if-self-len.true in let all = c.len.ensures in
    (c.self.invariant.0, c.put.ensures (places_of cs) (place_held cs c.self.inside.here c.self.inside.at.ptr (c.self.invariant.0 (omega arith))) c.self.invariant.1)
