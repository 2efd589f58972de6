use Rattle.std.proofs.Common.{length, ap, arith}
use Rattle.message_list.specs.Links.{places_of}
use Rattle.message_list.proofs.list.NodeList.empty.Goals as goal

pub invariant_of-result : goal.invariant_of-result
invariant_of-result g c = let none = ap length c.new.ensures in (λ lt. absurd (omega (arith, none, lt)), c.new-2.ensures (places_of c.new.result))
