use Rattle.std.proofs.Common.{◌≡◌, ◌++◌, take, map}
use Rattle.std.specs.Prelude.{string_bytes}
use Rattle.std.specs.List.{flat_map}
use Rattle.trace_check.specs.declared.line.TraceLine.TheVariants.{Entry}
use Rattle.trace_check.specs.Text.{trace_line_text}
use Rattle.trace_check.proofs.writer.push_entries.Given as goal

abbrev pub invariant-loop-entry : goal.invariant-loop-entry
invariant-loop-entry l = string_bytes l.out ≡ string_bytes l.fn.out ++ flat_map trace_line_text (map Entry (take l.entry-index l.entries))
