use Rattle.std.proofs.Common.{List, ◌++◌, ap, sym, ◌∙◌}
use Rattle.frame_phases.specs.declared.entry.FrameEntry.{FrameEntry}
use Rattle.choreographer.proofs.Joining.{entries_more}
use Rattle.choreographer.proofs.ends.joined.Goals as goal

pub loop-part-preserved : goal.loop-part-preserved
loop-part-preserved c =
    let p = c.part-item.result in
    let more = entries_more c.args.parts.now c.loop-part.part-index p p c.loop-part-test.true c.part-item.is in
    c.in_ok-append.ensures ∙ (ap (λ (es : List FrameEntry). c.loop-part.all.items ++ es) c.as_slice.ensures ∙ (ap (λ (l : List FrameEntry). l ++ p) c.loop-part.invariant ∙ sym more))
