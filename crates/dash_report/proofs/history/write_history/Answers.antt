use Rattle.std.proofs.Common.{◌≡◌, ◌++◌, List, ap, sym, ◌∙◌, take, length, arith}
use Rattle.std.specs.Prelude.{string_bytes}
use Rattle.std.specs.List.{flat_map}
use Rattle.loop_model.specs.declared.entry.Entry.{Entry}
use Rattle.loop_model.specs.declared.post.Post.{Post}
use Rattle.loop_model.specs.Chain.{entries_of}
use Rattle.run_model.specs.Text.{LineWords, line_text, call_lines}
use Rattle.dash_report.proofs.Written.{entries_written, one_part_more, all_parts}
use Rattle.dash_report.proofs.history.write_history.Goals as goal

pub loop-segment-preserved : goal.loop-segment-preserved
loop-segment-preserved c =
    let i = c.loop-segment.segment-index in
    let p = c.segment-item.result in
    let lines : Entry → List LineWords = λ e. call_lines c.as_slice-posts.result.now e.call e.reply in
    let more = one_part_more c.args.segments.now i p c.loop-segment-test.true c.segment-item.is in
    c.in_ok-write_entries.ensures
    ∙ (ap (λ (es : List Entry). string_bytes c.loop-segment.out ++ flat_map line_text (flat_map lines es)) c.as_slice.ensures
    ∙ (ap (λ l. l ++ flat_map line_text (flat_map lines p.entries)) c.loop-segment.invariant
    ∙ (entries_written lines (string_bytes c.args.out.now) (entries_of (take i c.args.segments.now)) p.entries
    ∙ ap (λ (es : List Entry). string_bytes c.args.out.now ++ flat_map line_text (flat_map lines es)) (sym more))))

pub returns : goal.returns
returns c =
    let ps = c.args.segments.now in
    let all : c.loop-segment.segment-index ≡ length ps = omega arith in
    let lines : List Post → Entry → List LineWords = λ posts e. call_lines posts e.call e.reply in
    c.loop-segment.invariant
    ∙ (ap (λ (es : List Entry). string_bytes c.args.out.now ++ flat_map line_text (flat_map (lines c.as_slice-posts.result.now) es)) (all_parts ps c.loop-segment.segment-index all)
    ∙ ap (λ (posts : List Post). string_bytes c.args.out.now ++ flat_map line_text (flat_map (lines posts) (entries_of ps))) (c.as_slice-posts.ensures.value ∙ c.in_ok-accepted.ensures))
