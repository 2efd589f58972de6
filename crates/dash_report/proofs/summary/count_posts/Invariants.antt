use Rattle.std.proofs.Common.{◌≡◌, take}
use Rattle.run_model.specs.Summary.{accepted_in, dispatched_in}
use Rattle.dash_report.proofs.summary.count_posts.Given as goal

abbrev pub invariant-loop-queue : goal.invariant-loop-queue
invariant-loop-queue l =
    (l.accepted ≡ accepted_in (take l.queue-index l.queues)) × (l.dispatched ≡ dispatched_in (take l.queue-index l.queues))
