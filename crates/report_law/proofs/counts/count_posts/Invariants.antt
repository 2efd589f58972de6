-- the entries so far are counted, and each posts one message at most
use Rattle.std.proofs.Common.{◌≡◌, ◌≤◌, take}
use Rattle.std.specs.Prelude.{sum_by}
use Rattle.loop_model.specs.Entries.{posts_in}
use Rattle.report_law.proofs.counts.count_posts.Given as goal

abbrev pub invariant-loop-entry : goal.invariant-loop-entry
invariant-loop-entry l = (l.count ≡ sum_by (λ e. posts_in e.call e.reply) (take l.entry-index l.entries)) × (l.count ≤ l.entry-index)
