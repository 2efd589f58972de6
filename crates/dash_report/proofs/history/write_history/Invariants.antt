use Rattle.std.proofs.Common.{◌≡◌, ◌++◌, take}
use Rattle.std.specs.Prelude.{string_bytes}
use Rattle.std.specs.List.{flat_map}
use Rattle.loop_model.specs.Chain.{entries_of}
use Rattle.run_model.specs.Text.{line_text, call_lines}
use Rattle.dash_report.proofs.history.write_history.Given as goal

abbrev pub invariant-loop-segment : goal.invariant-loop-segment
invariant-loop-segment l =
    string_bytes l.out ≡ string_bytes l.fn.out ++ flat_map line_text (flat_map (λ e. call_lines l.posts e.call e.reply) (entries_of (take l.segment-index l.segments)))
