use Rattle.std.proofs.Common.{ℕ, ◌≡◌, ◌+◌, List, subst, arith}
use Rattle.message_list.specs.Store.{Holds}
use Rattle.message_list.specs.Links.{PlacedNode}
use Rattle.message_list.proofs.Chained.{node_before}
use Rattle.message_list.proofs.chain.Chain.before.Goals as goal

pub at-requires : goal.at-requires
at-requires g c = rw c.self.view_is c.requires

pub returns : goal.returns
returns g c = let i = c.args.i in subst (λ (cs : List (PlacedNode g.row.T.Denot)). (k : ℕ) → k + 1 ≡ i → Holds cs k c.at.result.now.prev.ptr) c.self.view_is
    (λ k e. node_before c.self.inside.store.cells c.self.inside.tail.ptr k i c.args.at.ptr c.at.result.now c.self.invariant.1.1 c.at.ensures (omega (arith, e)))
