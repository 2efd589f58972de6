use Rattle.std.proofs.Common.{◌≡◌, ◌≤◌, ◌+◌, map, length, take, None}
use Rattle.std.specs.List.{position_from}
use Rattle.dash_script.specs.Text.{line_statement}
use Rattle.inbox_queue.specs.Bad.{is_bad}
use Rattle.inbox_queue.proofs.bad.bad_in_lines.Given as goal

abbrev pub invariant-loop-line : goal.invariant-loop-line
invariant-loop-line l = (l.number ≡ l.before + l.line-index) × (position_from is_bad (l.before + 1) (map line_statement (take l.line-index l.lines)) ≡ None) × (l.line-index ≤ length l.lines)
