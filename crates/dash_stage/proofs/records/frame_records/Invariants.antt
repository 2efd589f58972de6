use Rattle.std.proofs.Common.{◌≡◌, ◌++◌, length}
use Rattle.std.specs.Vec.Iter.{into_iter_items, into_iter_len}
use Rattle.dash_stage.specs.Ending.{AreFramesSealed}
use Rattle.dash_stage.proofs.Ends.HallFrames.{HaveEnded}
use Rattle.dash_stage.proofs.records.frame_records.Given as goal

abbrev pub invariant-loop-choreographer : goal.invariant-loop-choreographer
invariant-loop-choreographer l = record {
  parts : l.yielded ++ into_iter_items l.choreographer-iterator ≡ into_iter_items l.initial.choreographer-iterator;
  long : into_iter_len l.choreographer-iterator ≡ length (into_iter_items l.choreographer-iterator);
  looper : l.looper ≡ length l.yielded;
  count : length l.records.items ≡ l.looper;
  sealed : AreFramesSealed l.kits.items l.sealed.items;
  ended : HaveEnded l.script l.looper (into_iter_items l.choreographer-iterator) l.initial.kits.items l.records.items l.kits.items;
}
