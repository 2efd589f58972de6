-- One thread's line more.
use Rattle.dashboard_cli.proofs.Inboxes.{thread_written}
use Rattle.dashboard_cli.proofs.inbox.write_admitted.Goals as goal

pub loop-thread-preserved : goal.loop-thread-preserved
loop-thread-preserved c =
    thread_written c.args.lists.now c.loop-thread.thread-counter c.in_ok-count.count _ _ _ c.in_ok-count.ensures c.loop-thread.invariant c.in_ok-writeln.ensures.bytes
