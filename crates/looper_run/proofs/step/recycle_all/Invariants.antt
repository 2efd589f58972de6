use Rattle.std.proofs.Common.{◌≡◌, All, length}
use Rattle.message_pool.specs.Passes.{Tally}
use Rattle.message_pool.specs.Obtain.{IsNodeOf}
use Rattle.looper_run.specs.Told.{AreRecycled}
use Rattle.looper_run.proofs.step.recycle_all.Given as goal

abbrev pub invariant-loop-node : goal.invariant-loop-node
invariant-loop-node g l = record {
  home : l.pass.home ≡ l.pool;
  nodes : All (IsNodeOf l.pool) l.nodes;
  rest : (end : Tally) → AreRecycled l.nodes l.pass end → AreRecycled l.fn.nodes l.fn.pass end;
}

abbrev pub decreases-loop-node : goal.decreases-loop-node
decreases-loop-node g l = length l.nodes
