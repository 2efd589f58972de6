-- The queues before the first bad one are legal.
use Rattle.std.proofs.Common.{arith}
use Rattle.dashboard_cli.proofs.Judging.{all_of_them, first_illegal, one_more}
use Rattle.dashboard_cli.proofs.verdict.judge.Goals as goal

pub returns-in-First : goal.returns-in-First
returns-in-First c =
    first_illegal c.args.queues.now c.loop-queue.queue-index c.queue-item.result c.in-First.place c.loop-queue-test.true c.queue-item.is c.loop-queue.invariant
    (c.check.ensures.first c.in-First.place c.in-First.is)

pub loop-queue-preserved : goal.loop-queue-preserved
loop-queue-preserved c =
    one_more c.args.queues.now c.loop-queue.queue-index c.queue-item.result c.loop-queue-test.true c.queue-item.is c.loop-queue.invariant
    (c.check.ensures.legal c.in-Legal.is)

pub returns : goal.returns
returns c = all_of_them c.args.queues.now c.loop-queue.queue-index (omega (arith, c.loop-queue-test.false)) c.loop-queue.invariant
