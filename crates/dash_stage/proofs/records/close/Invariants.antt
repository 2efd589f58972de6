use Rattle.std.proofs.Common.{◌≡◌, length}
use Rattle.std.specs.Vec.Iter.{into_iter_items, into_iter_len}
use Rattle.dash_stage.specs.Ending.{AreOfPool}
use Rattle.dash_stage.proofs.records.close.Given as goal

abbrev pub invariant-loop-kit : goal.invariant-loop-kit
invariant-loop-kit l = record {
  long : into_iter_len l.kit-iterator ≡ length (into_iter_items l.kit-iterator);
  pass : l.pass.home ≡ l.pool;
  kits : AreOfPool l.pool (into_iter_items l.kit-iterator);
}
