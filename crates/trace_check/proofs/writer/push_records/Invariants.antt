use Rattle.std.proofs.Common.{◌≡◌, ◌++◌, take, map}
use Rattle.std.specs.Prelude.{string_bytes}
use Rattle.std.specs.List.{flat_map}
use Rattle.trace_check.specs.Text.{trace_line_text, queue_lines}
use Rattle.trace_check.specs.Text.{trace_queue_of}
use Rattle.trace_check.proofs.writer.push_records.Given as goal

abbrev pub invariant-loop-queue : goal.invariant-loop-queue
invariant-loop-queue l = string_bytes l.out ≡ string_bytes l.fn.out ++ flat_map trace_line_text (flat_map queue_lines (map trace_queue_of (take l.queue-index l.records)))
