use Rattle.std.proofs.Common.{◌≡◌, ◌≤◌, length, take}
use Rattle.inbox_queue.specs.Plans.{planned_posts}
use Rattle.inbox_queue.proofs.planned.planned_count.Given as goal

abbrev pub invariant-loop-line : goal.invariant-loop-line
invariant-loop-line l = (l.count ≡ length (planned_posts l.script l.time l.thread (take l.line-index l.lines))) × (l.count ≤ l.line-index) × (l.line-index ≤ length l.lines)
