use Rattle.std.proofs.Common.{◌≡◌, [], length, replicate, None, ◌≤◌}
use Rattle.crossbeam_queue.specs.SegTies.{IsSegPassOf}
use Rattle.inbox_queue.specs.declared.known.Known.TheVariants.{Admits}
use Rattle.inbox_queue.specs.Passes.{known}
use Rattle.inbox_queue.specs.Handed.{AreNewSenders}
use Rattle.inbox_queue.proofs.inbox.deal.Given as goal

abbrev pub invariant-loop-number : goal.invariant-loop-number
invariant-loop-number l = IsSegPassOf l.queue l.pass × (known l.pass ≡ Admits (replicate l.number None) []) × (length l.list.items ≡ l.number) × AreNewSenders l.queue.web l.list.items × (l.number ≤ l.senders)
