use Rattle.std.proofs.Common.{arith}
use Rattle.run_flows.proofs.Written.{arrow_more}
use Rattle.run_flows.proofs.event.push_arrows.Goals as goal

pub loop-flow-preserved : goal.loop-flow-preserved
loop-flow-preserved c = record {
  counted = omega (arith, c.loop-flow.invariant.counted);
  written = arrow_more c.args.flows.now c.loop-flow.flow-index c.loop-flow.arrow _ c.loop-flow.out.items _ _ _ _ _ c.loop-flow-test.true c.in_ok-push.ensures.items c.in_ok-post.ensures c.in_ok-push-2.ensures.items c.in_ok-dispatch.ensures c.loop-flow.invariant.written;
}
