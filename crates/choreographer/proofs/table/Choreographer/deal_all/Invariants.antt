use Rattle.std.proofs.Common.{◌≡◌, [], length}
use Rattle.choreographer.specs.Ends.{undealt, AreNewPasses}
use Rattle.choreographer.proofs.table.Choreographer.deal_all.Given as goal

abbrev pub invariant-loop-number : goal.invariant-loop-number
invariant-loop-number l = (l.seat.table_id ≡ l.self.table) × (l.seat.me ≡ (undealt l.self.constants l.number, [])) × (length l.dealt.items ≡ l.number) × AreNewPasses l.self l.dealt.items
