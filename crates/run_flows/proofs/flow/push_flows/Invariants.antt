use Rattle.std.proofs.Common.{◌≡◌, ◌++◌, take, filter_map}
use Rattle.run_flows.specs.Flows.{flow_to, sent_from}
use Rattle.run_flows.proofs.flow.push_flows.Given as goal

abbrev pub invariant-loop-entry : goal.invariant-loop-entry
invariant-loop-entry l = l.out.items ≡ l.fn.out.items ++ filter_map (flow_to (sent_from 0 l.fn.queue.entries) l.fn.queue.looper) (take l.entry-index l.fn.queue.entries)
