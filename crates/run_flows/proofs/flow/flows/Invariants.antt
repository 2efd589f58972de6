use Rattle.std.proofs.Common.{◌≡◌, take, flat_map}
use Rattle.run_flows.specs.Flows.{queue_flows}
use Rattle.run_flows.proofs.flow.flows.Given as goal

abbrev pub invariant-loop-queue : goal.invariant-loop-queue
invariant-loop-queue l = l.out.items ≡ flat_map queue_flows (take l.queue-index l.fn.trace.queues)
