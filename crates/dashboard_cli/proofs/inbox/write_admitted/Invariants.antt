use Rattle.std.proofs.Common.{◌≡◌, ◌++◌, map}
use Rattle.std.specs.Prelude.{string_bytes}
use Rattle.std.specs.List.{flat_map, range_with_len}
use Rattle.run_model.specs.Text.{line_text}
use Rattle.dashboard_cli.specs.InboxText.{from_line}
use Rattle.dashboard_cli.proofs.inbox.write_admitted.Given as goal

abbrev pub invariant-loop-thread : goal.invariant-loop-thread
invariant-loop-thread l =
    string_bytes l.out ≡ string_bytes l.fn.out ++ flat_map line_text (map (from_line l.lists) (range_with_len 0 l.thread-counter))
