use Rattle.message_pool.specs.Obtain.{IsNodeOf}
use Rattle.handler_post.proofs.Brought.{one_more, tail_all}
use Rattle.handler_post.proofs.supply.recycle_all.Goals as goal

pub loop-node-preserved : goal.loop-node-preserved
loop-node-preserved g c = let popped = c.in-Some.ensures in let rest = c.pop_front.new.self in record {
  home = c.recycle.ensures.home;
  nodes = (tail_all (IsNodeOf c.args.pool.now) c.in-Some.node c.loop-node.nodes rest popped c.loop-node.invariant.nodes).1;
  way = one_more c.args.nodes c.loop-node.nodes rest c.in-Some.node c.args.pass.now c.loop-node.pass c.recycle.new.pass popped c.loop-node.invariant.way c.recycle.ensures.back;
}
