use Rattle.std.proofs.Common.{◌≡◌, length, take}
use Rattle.loop_model.specs.Chain.{entries_of}
use Rattle.trace_check.proofs.writer.count_entries.Given as goal

abbrev pub invariant-loop-part : goal.invariant-loop-part
invariant-loop-part l = l.count ≡ length (entries_of (take l.part-index l.parts))
