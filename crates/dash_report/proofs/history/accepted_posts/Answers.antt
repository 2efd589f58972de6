use Rattle.std.proofs.Common.{◌≡◌, ◌++◌, List, ap, sym, ◌∙◌, take, length, arith, rules}
use Rattle.std.proofs.lemmas.List.Elements.{filter_map-append}
use Rattle.loop_model.specs.declared.entry.Entry.{Entry}
use Rattle.loop_model.specs.Chain.{entries_of}
use Rattle.loop_model.specs.Posts.{accepted_post, accepted_posts}
use Rattle.dash_report.proofs.Written.{one_part_more, all_parts}
use Rattle.dash_report.proofs.history.accepted_posts.Goals as goal

pub loop-segment-preserved : goal.loop-segment-preserved
loop-segment-preserved c =
    let i = c.loop-segment.segment-index in
    let p = c.segment-item.result in
    let more = one_part_more c.args.segments.now i p c.loop-segment-test.true c.segment-item.is in
    let these : c.in_ok-more.more.items ≡ accepted_posts p.entries = c.in_ok-more.ensures ∙ ap (λ (es : List Entry). accepted_posts es) c.as_slice.ensures in
    let joined : c.append.new.self.items ≡ c.loop-segment.posts.items ++ c.in_ok-more.more.items = search rules in
    joined
    ∙ ((λ k. c.loop-segment.invariant k ++ these k)
    ∙ (sym (filter_map-append accepted_post (entries_of (take i c.args.segments.now)) p.entries) ∙ ap (λ (es : List Entry). accepted_posts es) (sym more)))

pub returns : goal.returns
returns c =
    let all : c.loop-segment.segment-index ≡ length c.args.segments.now = omega arith in
    c.loop-segment.invariant ∙ ap (λ (es : List Entry). accepted_posts es) (all_parts c.args.segments.now c.loop-segment.segment-index all)
