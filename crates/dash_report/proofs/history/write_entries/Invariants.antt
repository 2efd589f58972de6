use Rattle.std.proofs.Common.{◌≡◌, ◌++◌, take}
use Rattle.std.specs.Prelude.{string_bytes}
use Rattle.std.specs.List.{flat_map}
use Rattle.run_model.specs.Text.{line_text, call_lines}
use Rattle.dash_report.proofs.history.write_entries.Given as goal

abbrev pub invariant-loop-entry : goal.invariant-loop-entry
invariant-loop-entry l =
    string_bytes l.out ≡ string_bytes l.fn.out ++ flat_map line_text (flat_map (λ e. call_lines l.posts e.call e.reply) (take l.entry-index l.entries))
