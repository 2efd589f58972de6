use Rattle.std.proofs.Common.{◌≡◌, All, length}
use Rattle.message_pool.specs.Obtain.{IsNodeOf}
use Rattle.handler_post.proofs.Brought.{IsOnTheWay}
use Rattle.handler_post.proofs.supply.recycle_all.Given as goal

abbrev pub invariant-loop-node : goal.invariant-loop-node
invariant-loop-node g l = record {
  home : l.pass.home ≡ l.pool;
  nodes : All (IsNodeOf l.pool) l.nodes;
  way : IsOnTheWay l.fn.nodes l.nodes l.fn.pass l.pass;
}

abbrev pub decreases-loop-node : goal.decreases-loop-node
decreases-loop-node g l = length l.nodes
