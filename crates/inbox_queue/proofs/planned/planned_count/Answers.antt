use Rattle.std.proofs.Common.{arith}
use Rattle.inbox_queue.proofs.Gatherings.{counted_more, counted_all}
use Rattle.inbox_queue.proofs.planned.planned_count.Goals as goal

pub loop-line-preserved : goal.loop-line-preserved
loop-line-preserved c = (
  counted_more c.args.script.now c.args.time c.args.thread c.args.lines.now c.loop-line.line-index _ c.loop-line.count c.weight-count.result c.loop-line-test.true c.loop-line.invariant.0 c.weight-count.ensures.count,
  let lt = c.loop-line-test.true in let s = c.weight-count.ensures.small in let i = c.loop-line.invariant.1 in omega (arith, lt, s, i),
  let lt = c.loop-line-test.true in omega (arith, lt),
)

pub returns : goal.returns
returns c = counted_all c.args.script.now c.args.time c.args.thread c.args.lines.now c.loop-line.line-index c.loop-line.count c.loop-line-test.false c.loop-line.invariant.0
