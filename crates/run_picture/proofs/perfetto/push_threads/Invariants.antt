use Rattle.std.proofs.Common.{◌≡◌, ◌++◌, drop, map}
use Rattle.serde_json.specs.View.{view}
use Rattle.run_picture.specs.Events.{threads_from}
use Rattle.run_picture.proofs.perfetto.push_threads.Given as goal

abbrev pub invariant-loop-looper : goal.invariant-loop-looper
invariant-loop-looper l = record {
  counted : l.lane ≡ l.looper-index;
  written : map view l.out.items ++ threads_from l.lane (drop l.looper-index l.loopers) ≡ map view l.fn.out.items ++ threads_from 0 l.loopers;
}
