use Rattle.std.proofs.Common.{◌≡◌, All}
use Rattle.message_pool.specs.Obtain.{IsNodeOf}
use Rattle.model_tests.proofs.pools.give.Given as goal

abbrev pub invariant-loop-node : goal.invariant-loop-node
invariant-loop-node l = (l.pass.home ≡ l.pool) × All (IsNodeOf l.pool) l.nodes.items

abbrev pub decreases-loop-node : goal.decreases-loop-node
decreases-loop-node l = goal.left-loop-node l
