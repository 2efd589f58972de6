use Rattle.std.proofs.Common.{ℕ, ◌≡◌, ◌+◌, List, length, subst, arith}
use Rattle.message_list.specs.Store.{Holds}
use Rattle.message_list.specs.Links.{PlacedNode}
use Rattle.message_list.proofs.Chained.{tail_holds}
use Rattle.message_list.proofs.chain.Chain.tail.Goals as goal

pub returns : goal.returns
returns g c = subst (λ (cs : List (PlacedNode g.row.T.Denot)). (i : ℕ) → i + 1 ≡ length cs → Holds cs i c.self.inside.tail.ptr) c.self.view_is (λ i e. tail_holds _ _ i c.self.invariant.1.1 (omega (arith, e)))
