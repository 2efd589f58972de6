use Rattle.std.proofs.Common.{◌≡◌, length}
use Rattle.dash_stage.proofs.Ends.HallFrames.{AreTaken}
use Rattle.dash_stage.proofs.records.frame_record.Given as goal

abbrev pub invariant-loop-number : goal.invariant-loop-number
invariant-loop-number l = record {
  count : length l.passes.items ≡ l.number;
  taken : AreTaken l.script l.looper l.fn.choreographer l.number l.initial.kits.items l.passes.items l.kits.items;
}
