use Rattle.std.proofs.Common.{◌≡◌}
use Rattle.std.specs.Prelude.{find}
use Rattle.loop_model.specs.Entries.{ends}
use Rattle.trace_check.proofs.items.Items.look_for_ended.Given as goal

abbrev pub invariant-loop-rank : goal.invariant-loop-rank
invariant-loop-rank l = find (λ e. ends l.entry e.1) l.rank-iterator ≡ find (λ e. ends l.entry e.1) l.self.by_rank.entries
