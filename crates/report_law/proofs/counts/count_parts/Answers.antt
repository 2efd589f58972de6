use Rattle.std.proofs.Common.{List, ap, ◌∙◌, arith}
use Rattle.loop_model.specs.declared.entry.Entry.{Entry}
use Rattle.report_law.proofs.Counting.{posts, none, one_more, all_parts}
use Rattle.report_law.proofs.counts.count_parts.Goals as goal

pub loop-segment-init : goal.loop-segment-init
loop-segment-init c = record { counted = none; few = omega arith }

pub loop-segment-preserved : goal.loop-segment-preserved
loop-segment-preserved c =
    let p = c.segment-item.result in
    let more = one_more c.args.segments.now c.loop-segment.segment-index c.count_posts.result p c.loop-segment-test.true c.segment-item.is (c.count_posts.ensures ∙ ap (λ (es : List Entry). posts es) c.as_slice.ensures) in
    record {
      counted = omega (arith, c.loop-segment.invariant.counted, more);
      few = omega (arith, c.loop-segment.invariant.few);
    }

pub returns : goal.returns
returns c =
    c.loop-segment.invariant.counted ∙ all_parts c.args.segments.now c.loop-segment.segment-index (omega arith)
