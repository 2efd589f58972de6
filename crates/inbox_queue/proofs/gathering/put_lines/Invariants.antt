use Rattle.std.proofs.Common.{◌≡◌, ◌≤◌, length, take}
use Rattle.inbox_queue.specs.Plans.{planned_posts}
use Rattle.inbox_queue.proofs.gathering.put_lines.Given as goal

abbrev pub invariant-loop-line : goal.invariant-loop-line
invariant-loop-line g l =
    (l.sender.inbox ≡ l.fn.sender.inbox) × (l.sender.number ≡ l.fn.sender.number) × (l.sender.put ≡ planned_posts l.script l.block.time l.fn.sender.number (take l.line-index l.block.lines)) × (l.line-index ≤ length l.block.lines)
