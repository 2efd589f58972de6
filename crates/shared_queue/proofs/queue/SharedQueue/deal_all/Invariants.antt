use Rattle.std.proofs.Common.{◌≡◌, [], length}
use Rattle.shared_queue.specs.Ends.{undealt, AreNew}
use Rattle.shared_queue.proofs.queue.SharedQueue.deal_all.Given as goal

abbrev pub invariant-loop-sender : goal.invariant-loop-sender
invariant-loop-sender g l = (l.seat.table_id ≡ l.self.table) × (l.seat.me ≡ (undealt l.self.constants l.sender, [])) × (length l.posters.items ≡ l.sender) × AreNew l.self l.posters.items
