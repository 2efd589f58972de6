use Rattle.std.proofs.Common.{◌∙◌, ap, sym, subst, length, arith}
use Rattle.std.specs.Prelude.{not}
use Rattle.std.specs.List.{AllByRecursion}
use Rattle.std.specs.BTreeMap.{is_at}
use Rattle.std.specs.Map.{values_of}
use Rattle.loop_model.specs.Entries.{ends}
use Rattle.loop_model.specs.Listed.{kept_by}
use Rattle.trace_check.specs.Ranks.{IsRanked, listed}
use Rattle.trace_check.specs.Shelves.{by_rank}
use Rattle.trace_check.proofs.Indexed.{passing_filter, values_failing}
use Rattle.trace_check.proofs.Shelving.{removed_less, removed_ranked}
use Rattle.trace_check.proofs.items.Items.take_ended.Goals as goal

pub loop-rank-preserved : goal.loop-rank-preserved
loop-rank-preserved c =
    record {
      indexed = c.take_out.ensures.indexed;
      ranked = λ n r. subst (AllByRecursion (IsRanked n)) (sym c.take_out.ensures.entries) (removed_ranked n (is_at (by_rank c.in-Some.rank)) c.loop-rank.self.by_rank.entries (c.loop-rank.invariant.ranked n r));
      kept = ap (λ es. kept_by c.args.entry.now.call c.args.entry.now.reply (values_of es)) c.take_out.ensures.entries
          ∙ values_failing (is_at (by_rank c.in-Some.rank)) (λ x. not (ends c.args.entry.now x)) c.in-Some.item c.loop-rank.self.by_rank.entries c.in-Some.ensures.0 (ap not c.in-Some.ensures.1) ∙ c.loop-rank.invariant.kept;
    }

pub loop-rank-smaller : goal.loop-rank-smaller
loop-rank-smaller c =
    let less = removed_less (is_at (by_rank c.in-Some.rank)) c.loop-rank.self.by_rank.entries c.in-Some.item c.in-Some.ensures.0 in
    let made = ap length c.take_out.ensures.entries in omega (arith, less, made)

pub returns-clause-listed : goal.returns-clause-listed
returns-clause-listed c = sym (passing_filter (ends c.args.entry.now) (listed c.loop-rank.self) c.in_default.ensures) ∙ c.loop-rank.invariant.kept
