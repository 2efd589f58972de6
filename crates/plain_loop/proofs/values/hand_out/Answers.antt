use Rattle.message_pool.specs.Obtain.{IsNodeOf}
use Rattle.handler_post.proofs.Brought.{tail_all}
use Rattle.plain_loop.proofs.HandingOut.{passed_more, handed_value}
use Rattle.plain_loop.proofs.values.hand_out.Goals as goal

pub returns-in-Some-recycle_with-clause-of : goal.returns-in-Some-recycle_with-clause-of
returns-in-Some-recycle_with-clause-of g c =
    (tail_all (IsNodeOf c.loop-node.way.pool.now) c.in-Some.node c.loop-node.values.nodes c.pop_front.new.self c.in-Some.ensures c.loop-node.invariant.nodes).1

pub returns-in-Some-recycle_with-clause-value : goal.returns-in-Some-recycle_with-clause-value
returns-in-Some-recycle_with-clause-value g c =
    handed_value g.P.Payload.content c.args.values.now.nodes c.loop-node.values.nodes c.pop_front.new.self c.in-Some.node c.args.way.now.pass.now c.loop-node.way.pass.now c.recycle_with.new.pass
    c.loop-node.invariant.passed c.in-Some.ensures c.recycle_with.ensures.back c.in-Some-recycle_with.value c.in-Some-recycle_with.ensures.value c.loop-node.invariant.still

pub loop-node-preserved : goal.loop-node-preserved
loop-node-preserved g c =
    let was = c.loop-node.invariant in
    record {
      ready = record { poster = was.ready.poster; pass = c.recycle_with.ensures.home; home = was.ready.home };
      same = record { queue = was.same.queue; pool = was.same.pool; poster = was.same.poster; pass = was.same.pass };
      still = was.still;
      nodes = (tail_all (IsNodeOf c.loop-node.way.pool.now) c.in-Some.node c.loop-node.values.nodes c.pop_front.new.self c.in-Some.ensures was.nodes).1;
      passed = passed_more g.P.Payload.content c.args.values.now.nodes c.loop-node.values.nodes c.pop_front.new.self c.in-Some.node c.args.way.now.pass.now c.loop-node.way.pass.now c.recycle_with.new.pass
          was.passed c.in-Some.ensures c.recycle_with.ensures.back c.recycle_with.result c.in_default-recycle_with.not-Some c.recycle_with.ensures.value;
    }
