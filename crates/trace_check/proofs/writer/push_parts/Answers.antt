use Rattle.std.proofs.Common.{◌≡◌, ◌+◌, ◌++◌, List, ap, sym, ◌∙◌, take, map, length, arith}
use Rattle.std.specs.Prelude.{string_bytes}
use Rattle.std.specs.List.{flat_map}
use Rattle.std.proofs.Math.Seq.{take-length}
use Rattle.loop_model.specs.declared.entry.Entry.{Entry as EntryData}
use Rattle.loop_model.specs.declared.segment.Segment.{Segment}
use Rattle.loop_model.specs.Chain.{entries_of}
use Rattle.trace_check.specs.declared.line.TraceLine.TheVariants.{Entry}
use Rattle.trace_check.specs.Text.{trace_line_text}
use Rattle.trace_check.proofs.Parts.{parts_taken, entry_lines_more}
use Rattle.trace_check.proofs.writer.push_parts.Goals as goal

pub loop-part-preserved : goal.loop-part-preserved
loop-part-preserved c =
    let ps = c.args.parts.now in
    let i = c.loop-part.part-index in
    let p = c.part-item.result in
    let before : List EntryData = entries_of (take i ps) in
    let more : entries_of (take (i + 1) ps) ≡ before ++ p.entries = parts_taken ps i p c.loop-part-test.true ∙ ap (λ (q : Segment). before ++ q.entries) (sym c.part-item.is) in
    c.in_ok-push_entries.ensures
    ∙ (ap (λ (es : List EntryData). string_bytes c.loop-part.out ++ flat_map trace_line_text (map Entry es)) c.as_slice.ensures
    ∙ (ap (λ l. l ++ flat_map trace_line_text (map Entry p.entries)) c.loop-part.invariant
    ∙ (entry_lines_more (string_bytes c.args.out.now) before p.entries ∙ ap (λ (es : List EntryData). string_bytes c.args.out.now ++ flat_map trace_line_text (map Entry es)) (sym more))))

pub returns : goal.returns
returns c =
    let ps = c.args.parts.now in
    let all : c.loop-part.part-index ≡ length ps = omega arith in
    c.loop-part.invariant
    ∙ (ap (λ i. string_bytes c.args.out.now ++ flat_map trace_line_text (map Entry (entries_of (take i ps)))) all
    ∙ ap (λ (l : List Segment). string_bytes c.args.out.now ++ flat_map trace_line_text (map Entry (entries_of l))) (take-length ps))
