use Rattle.std.proofs.Common.{max, ◌++◌, option_to_list, ap, ◌∙◌}
use Rattle.run_flows.proofs.Arrows.{sent_more}
use Rattle.run_flows.proofs.flow.sent_posts.Goals as goal

pub loop-entry-preserved : goal.loop-entry-preserved
loop-entry-preserved c =
    sent_more c.args.entries.now c.loop-entry.entry-index _ c.loop-entry.time c.max-time.result c.loop-entry.found.items _ _ c.loop-entry-test.true
    (c.in_ok-push_some.ensures ∙ ap (λ o. c.loop-entry.found.items ++ option_to_list o) c.sent_by.ensures)
    (c.max-time.ensures ∙ ap (λ m. max c.loop-entry.time m) c.moment.ensures)
    c.loop-entry.invariant
