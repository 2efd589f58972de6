use Rattle.std.proofs.Common.{◌≡◌, ◌≤◌, ◌+◌, length, take, None}
use Rattle.std.specs.List.{position_from, flat_map}
use Rattle.dash_script.specs.Text.{block_lines}
use Rattle.inbox_queue.specs.Bad.{is_bad}
use Rattle.inbox_queue.proofs.bad.bad_in_blocks.Given as goal

abbrev pub invariant-loop-block : goal.invariant-loop-block
invariant-loop-block l =
    (l.before ≡ l.fn.before + length (flat_map block_lines (take l.block-index l.blocks))) × (position_from is_bad (l.fn.before + 1) (flat_map block_lines (take l.block-index l.blocks)) ≡ None) × (l.block-index ≤ length l.blocks)
