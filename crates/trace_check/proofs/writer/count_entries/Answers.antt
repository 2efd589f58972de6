use Rattle.std.proofs.Common.{◌≡◌, ◌+◌, ◌++◌, List, ap, sym, ◌∙◌, take, length, length-append, arith}
use Rattle.std.proofs.Math.Seq.{take-length}
use Rattle.loop_model.specs.declared.segment.Segment.{Segment}
use Rattle.loop_model.specs.Chain.{entries_of}
use Rattle.trace_check.proofs.Parts.{parts_taken}
use Rattle.trace_check.proofs.writer.count_entries.Goals as goal

pub loop-part-preserved : goal.loop-part-preserved
loop-part-preserved c =
    let ps = c.args.parts.now in
    let i = c.loop-part.part-index in
    let p = c.part-item.result in
    let more : entries_of (take (i + 1) ps) ≡ entries_of (take i ps) ++ p.entries = parts_taken ps i p c.loop-part-test.true ∙ ap (λ (q : Segment). entries_of (take i ps) ++ q.entries) (sym c.part-item.is) in
    let all = ap length more ∙ length-append (entries_of (take i ps)) p.entries in
    let was = c.loop-part.invariant in
    let len = c.len.ensures in
    let sum = c.in-Some.ensures.1 in
    omega (arith, all, was, len, sum)

pub returns : goal.returns
returns c =
    let ps = c.args.parts.now in
    let all : c.loop-part.part-index ≡ length ps = omega arith in
    c.loop-part.invariant ∙ (ap (λ i. length (entries_of (take i ps))) all ∙ ap (λ (l : List Segment). length (entries_of l)) (take-length ps))
