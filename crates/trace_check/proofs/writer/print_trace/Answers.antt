use Rattle.std.proofs.Common.{◌++◌, ◌∙◌, ap}
use Rattle.std.specs.Prelude.{string_bytes}
use Rattle.std.specs.List.{flat_map}
use Rattle.std.specs.Fmt.{digits}
use Rattle.trace_check.specs.declared.line.TraceLine.TheVariants.{Title}
use Rattle.trace_check.specs.Text.{trace_line_text, queue_lines}
use Rattle.trace_check.proofs.Written.{whole_text}
use Rattle.trace_check.proofs.writer.print_trace.Goals as goal

pub returns : goal.returns
unfolding trace_line_text digits
returns c =
    ap (λ v. v.items) c.into_bytes.ensures.value
    ∙ whole_text c.args.trace.now.queues (string_bytes c.writeln.new.self) (string_bytes c.push_queues.new.out) (string_bytes c.writeln-2.new.self) (c.in_ok-writeln.ensures.bytes ∙ ap (λ t. t ++ trace_line_text Title) c.new-out.ensures.bytes)
    (c.in_ok-push_queues.ensures ∙ ap (λ qs. string_bytes c.writeln.new.self ++ flat_map trace_line_text (flat_map queue_lines qs)) c.as_slice.ensures) c.in_ok-writeln-2.ensures.bytes
