use Rattle.std.proofs.Common.{List, ◌++◌, ap, sym, ◌∙◌}
use Rattle.loop_model.specs.declared.entry.Entry.{Entry}
use Rattle.fate_ledger.proofs.Parts.{entries_more}
use Rattle.fate_ledger.proofs.history.all_entries.Goals as goal

pub loop-segment-preserved : goal.loop-segment-preserved
loop-segment-preserved c =
    let p = c.segment-item.result in
    let more = entries_more c.args.segments.now c.loop-segment.segment-index p p c.loop-segment-test.true c.segment-item.is in
    c.in-Ok.ensures.items ∙ (ap (λ (es : List Entry). c.loop-segment.all.items ++ es) c.as_slice.ensures ∙ (ap (λ (l : List Entry). l ++ p.entries) c.loop-segment.invariant ∙ sym more))
