use Rattle.std.proofs.Common.{◌≡◌, ℕ, length}
use Rattle.loop_model.specs.Listed.{kept_by}
use Rattle.trace_check.specs.Ranks.{AreIndexed, AreRanked, listed}
use Rattle.trace_check.proofs.items.Items.take_ended.Given as goal

abbrev pub invariant-loop-rank : goal.invariant-loop-rank
invariant-loop-rank l = record {
  indexed : AreIndexed l.self;
  ranked : (n : ℕ) → AreRanked n l.fn.self → AreRanked n l.self;
  kept : kept_by l.entry.call l.entry.reply (listed l.self) ≡ kept_by l.entry.call l.entry.reply (listed l.fn.self);
}

abbrev pub decreases-loop-rank : goal.decreases-loop-rank
decreases-loop-rank l = length l.self.by_rank.entries
