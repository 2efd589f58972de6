use Rattle.std.proofs.Common.{◌≡◌, All, length}
use Rattle.message_pool.specs.Obtain.{IsNodeOf}
use Rattle.handler_post.specs.Ways.{IsReady, IsSameWay}
use Rattle.plain_loop.proofs.HandingOut.{HavePassed}
use Rattle.plain_loop.proofs.values.hand_out.Given as goal

abbrev pub invariant-loop-node : goal.invariant-loop-node
invariant-loop-node g l = record {
  ready : IsReady l.way;
  same : IsSameWay l.initial.way l.way;
  still : l.way.poster.now ≡ l.initial.way.poster.now;
  nodes : All (IsNodeOf l.way.pool.now) l.values.nodes;
  passed : HavePassed l.initial.values.nodes l.values.nodes l.initial.way.pass.now l.way.pass.now;
}

abbrev pub decreases-loop-node : goal.decreases-loop-node
decreases-loop-node g l = length l.values.nodes
