use Rattle.std.proofs.Common.{◌≡◌, ◌++◌, drop, map}
use Rattle.serde_json.specs.View.{view}
use Rattle.run_flows.specs.Events.{arrows_from}
use Rattle.run_flows.proofs.event.push_arrows.Given as goal

abbrev pub invariant-loop-flow : goal.invariant-loop-flow
invariant-loop-flow l = record {
  counted : l.arrow ≡ l.flow-index;
  written : map view l.out.items ++ arrows_from l.arrow (drop l.flow-index l.flows) ≡ map view l.fn.out.items ++ arrows_from 0 l.flows;
}
