use Rattle.run_flows.proofs.Arrows.{flow_more}
use Rattle.run_flows.proofs.flow.push_flows.Goals as goal

pub loop-entry-preserved : goal.loop-entry-preserved
loop-entry-preserved c =
    flow_more c.args.queue.now.entries c.as_slice-entries.result.now c.loop-entry.entry-index c.args.queue.now.looper _ c.deref.result.now
    c.in_ok-posts.posts.items c.flow_to.result c.args.out.now.items c.loop-entry.out.items _ c.as_slice-entries.ensures c.loop-entry-test.true
    c.in_ok-posts.ensures c.deref.ensures.value c.flow_to.ensures c.in_ok-push_some.ensures c.loop-entry.invariant
