use Rattle.std.proofs.Common.{◌≡◌, ◌++◌, take, map}
use Rattle.std.specs.Prelude.{string_bytes}
use Rattle.std.specs.List.{flat_map}
use Rattle.loop_model.specs.Chain.{entries_of}
use Rattle.trace_check.specs.declared.line.TraceLine.TheVariants.{Entry}
use Rattle.trace_check.specs.Text.{trace_line_text}
use Rattle.trace_check.proofs.writer.push_parts.Given as goal

abbrev pub invariant-loop-part : goal.invariant-loop-part
invariant-loop-part l = string_bytes l.out ≡ string_bytes l.fn.out ++ flat_map trace_line_text (map Entry (entries_of (take l.part-index l.parts)))
