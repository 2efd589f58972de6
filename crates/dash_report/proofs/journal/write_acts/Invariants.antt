use Rattle.std.proofs.Common.{◌≡◌, ◌++◌, take}
use Rattle.std.specs.Prelude.{string_bytes}
use Rattle.std.specs.List.{flat_map}
use Rattle.run_model.specs.Text.{line_text, act_lines}
use Rattle.dash_report.proofs.journal.write_acts.Given as goal

abbrev pub invariant-loop-act : goal.invariant-loop-act
invariant-loop-act l =
    string_bytes l.out ≡ string_bytes l.fn.out ++ flat_map line_text (flat_map act_lines (take l.act-index l.acts))
