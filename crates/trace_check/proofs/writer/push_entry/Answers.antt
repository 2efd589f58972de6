use Rattle.std.proofs.Common.{◌++◌, ◌∙◌, ap}
use Rattle.std.specs.Prelude.{string_bytes}
use Rattle.trace_check.specs.Text.{trace_line_text}
use Rattle.trace_check.proofs.Written.{entry_joined}
use Rattle.trace_check.proofs.writer.push_entry.Goals as goal

pub returns : goal.returns
unfolding trace_line_text
returns c = c.in_ok-writeln.ensures.bytes ∙ ap (λ t. string_bytes c.args.out.now ++ t) (entry_joined c.args.entry.now)
