use Rattle.std.proofs.Common.{◌≡◌, ◌++◌, drop}
use Rattle.run_flows.specs.Flows.{sent_from}
use Rattle.run_flows.proofs.flow.sent_posts.Given as goal

abbrev pub invariant-loop-entry : goal.invariant-loop-entry
invariant-loop-entry l = l.found.items ++ sent_from l.time (drop l.entry-index l.entries) ≡ sent_from 0 l.entries
