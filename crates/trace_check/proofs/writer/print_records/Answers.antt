use Rattle.std.proofs.Common.{◌++◌, ◌∙◌, ap, map}
use Rattle.std.specs.Prelude.{string_bytes}
use Rattle.std.specs.Fmt.{digits}
use Rattle.trace_check.specs.Text.{trace_queue_of}
use Rattle.trace_check.specs.declared.line.TraceLine.TheVariants.{Title}
use Rattle.trace_check.specs.Text.{trace_line_text}
use Rattle.trace_check.proofs.Written.{whole_text}
use Rattle.trace_check.proofs.writer.print_records.Goals as goal

pub returns : goal.returns
unfolding trace_line_text digits
returns c =
    ap (λ v. v.items) c.into_bytes.ensures.value
    ∙ whole_text (map trace_queue_of c.args.records.now) (string_bytes c.writeln.new.self) (string_bytes c.push_records.new.out) (string_bytes c.writeln-2.new.self) (c.in_ok-writeln.ensures.bytes ∙ ap (λ t. t ++ trace_line_text Title) c.new-out.ensures.bytes)
    c.in_ok-push_records.ensures c.in_ok-writeln-2.ensures.bytes
