use Rattle.std.proofs.Common.{◌≡◌, ◌++◌, take}
use Rattle.std.specs.Prelude.{string_bytes}
use Rattle.std.specs.List.{flat_map}
use Rattle.run_model.specs.Text.{line_text, loopers_lines}
use Rattle.dash_report.proofs.report.write_loopers.Given as goal

abbrev pub invariant-loop-index : goal.invariant-loop-index
invariant-loop-index l =
    string_bytes l.out ≡ string_bytes l.fn.out ++ flat_map line_text (loopers_lines (take l.index l.queues) (take l.index l.journals) (take l.index l.frames))
