use Rattle.std.proofs.Common.{◌≡◌, ◌++◌, take, map}
use Rattle.serde_json.specs.View.{view}
use Rattle.run_picture.specs.Events.{event}
use Rattle.run_picture.proofs.perfetto.push_events.Given as goal

abbrev pub invariant-loop-mark : goal.invariant-loop-mark
invariant-loop-mark l = map view l.out.items ≡ map view l.fn.out.items ++ map (event l.period) (take l.mark-index l.marks)
