use Rattle.std.proofs.Common.{◌+◌, ap, take, ◌∙◌, length, arith}
use Rattle.trace_check.specs.Checking.{past_base, made_in}
use Rattle.trace_check.proofs.Passing.{good_none, good_at, bad_at, base_at, counts_at, first_is_bad, first_of_all, none_legal, none_first, whole_good, apart_of, fault_bad, fault_at}
use Rattle.trace_check.proofs.checker.explain.Goals as goal

pub loop-place-init : goal.loop-place-init
loop-place-init c =
    record {
      base = c.in-Ok.ensures.base;
      length = c.in-Ok.ensures.length;
      posts = omega (arith, ap (λ b. b.accepted) c.in-Ok.ensures.base);
      barriers = omega (arith, ap (λ b. b.barriers) c.in-Ok.ensures.base);
      counts = c.new-counts.ensures;
      ranked = c.in-Ok.ensures.ranked;
      indexed = c.in-Ok.ensures.indexed;
      good = good_none c.args.queue.now;
    }

pub returns-in-Some-clause-all_legal : goal.returns-in-Some-clause-all_legal
returns-in-Some-clause-all_legal c =
    let q = c.args.queue.now in
    let at = c.loop-place in
    let bad = bad_at q (past_base at.past) (made_in at.counts) at.place _ _ _ c.as_slice-entries.ensures c.of.ensures c.loop-place-test.true at.invariant.base at.invariant.counts (fault_bad q (past_base at.past) c.of.result _ c.in-Some.fault c.in-Some.ensures) in
    none_legal q at.place (omega (arith, c.loop-place-test.true, ap length c.as_slice-entries.ensures)) bad

pub returns-in-Some-clause-first : goal.returns-in-Some-clause-first
returns-in-Some-clause-first c =
    let q = c.args.queue.now in
    let at = c.loop-place in
    let bad = bad_at q (past_base at.past) (made_in at.counts) at.place _ _ _ c.as_slice-entries.ensures c.of.ensures c.loop-place-test.true at.invariant.base at.invariant.counts (fault_bad q (past_base at.past) c.of.result _ c.in-Some.fault c.in-Some.ensures) in
    first_is_bad q at.place (omega (arith, c.loop-place-test.true, ap length c.as_slice-entries.ensures)) at.invariant.good bad

pub returns-in-Some-clause-all_first : goal.returns-in-Some-clause-all_first
returns-in-Some-clause-all_first c =
    let q = c.args.queue.now in
    let at = c.loop-place in
    let bad = bad_at q (past_base at.past) (made_in at.counts) at.place _ _ _ c.as_slice-entries.ensures c.of.ensures c.loop-place-test.true at.invariant.base at.invariant.counts (fault_bad q (past_base at.past) c.of.result _ c.in-Some.fault c.in-Some.ensures) in
    first_of_all q at.place (omega (arith, c.loop-place-test.true, ap length c.as_slice-entries.ensures)) at.invariant.good bad

pub loop-place-preserved : goal.loop-place-preserved
loop-place-preserved c =
    let q = c.args.queue.now in
    let at = c.loop-place in
    let slice = c.as_slice-entries.ensures in
    let lt = c.loop-place-test.true in
    record {
      base = base_at q (past_base at.past) (past_base c.add-in-loop-place.new.self) at.place _ _ slice lt at.invariant.base c.in-Ok-add-2.ensures.base;
      length = c.in-Ok-add-2.ensures.length ∙ ap (λ n. n + 1) at.invariant.length;
      posts = omega (arith, c.in-Ok-add-2.ensures.posts, c.in-Ok-add-2.ensures.length, at.invariant.length);
      barriers = omega (arith, c.in-Ok-add-2.ensures.barriers, c.in-Ok-add-2.ensures.length, at.invariant.length);
      counts = counts_at q (made_in at.counts) (made_in c.add.new.self) at.place _ _ slice lt at.invariant.counts c.in-Ok-add.ensures;
      ranked = c.in-Ok-add-2.ensures.ranked;
      indexed = c.in-Ok-add-2.ensures.indexed;
      good = good_at q (past_base at.past) (made_in at.counts) at.place _ _ _ slice c.of.ensures lt at.invariant.base at.invariant.counts at.invariant.good c.in_default-fault_of.ensures;
    }

pub returns-clause-all_first : goal.returns-clause-all_first
returns-clause-all_first c =
    let q = c.args.queue.now in
    none_first q (whole_good q c.loop-place.place (omega (arith, c.loop-place-test.false, ap length c.as_slice-entries.ensures)) c.loop-place.invariant.good)

pub add-requires-in-loop-place-clause-apart : goal.add-requires-in-loop-place-clause-apart
add-requires-in-loop-place-clause-apart c = apart_of c.args.queue.now (past_base c.loop-place.past) (take c.loop-place.place c.args.queue.now.entries) c.loop-place.invariant.base c.loop-place.invariant.good

pub fault_of-requires : goal.fault_of-requires
fault_of-requires c = c.loop-place.invariant.indexed

pub add-requires-in-loop-place-clause-indexed : goal.add-requires-in-loop-place-clause-indexed
add-requires-in-loop-place-clause-indexed c = c.loop-place.invariant.indexed

pub returns-in-Some-clause-fault : goal.returns-in-Some-clause-fault
returns-in-Some-clause-fault c =
    let q = c.args.queue.now in
    let at = c.loop-place in
    λ d. fault_at q (past_base at.past) (made_in at.counts) at.place _ d _ c.of.result c.in-Some.fault c.as_slice-entries.ensures c.of.ensures c.loop-place-test.true at.invariant.base at.invariant.counts c.in-Some.ensures
