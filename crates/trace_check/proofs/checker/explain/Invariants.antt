use Rattle.std.proofs.Common.{◌≡◌, ◌≤◌, ℕ, take}
use Rattle.std.specs.Prelude.{◌==◌, fold, count_by}
use Rattle.loop_model.specs.Base.{empty_base}
use Rattle.loop_model.specs.Listed.{next_base}
use Rattle.trace_check.specs.Checking.{past_base, made_in}
use Rattle.trace_check.specs.Good.{IsGood}
use Rattle.trace_check.specs.Ranks.{AreIndexed, AreRanked}
use Rattle.trace_check.proofs.checker.explain.Given as goal

abbrev pub invariant-loop-place : goal.invariant-loop-place
invariant-loop-place l = record {
  base : past_base l.past ≡ fold next_base (empty_base 0) (take l.place l.queue.entries);
  length : l.past.length ≡ l.place;
  posts : l.past.counters.accepted ≤ l.place;
  barriers : l.past.counters.barriers ≤ l.place;
  counts : (sender : ℕ) → made_in l.counts sender ≡ count_by (λ e. e.sender == sender) (take l.place l.queue.entries);
  ranked : AreRanked l.past.length l.past.items;
  indexed : AreIndexed l.past.items;
  good : IsGood l.queue (take l.place l.queue.entries);
}
