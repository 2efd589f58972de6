use Rattle.std.proofs.Common.{◌≡◌}
use Rattle.std.specs.Prelude.{find}
use Rattle.loop_model.specs.Items.{is_asynchronous}
use Rattle.trace_check.proofs.items.Items.look_for_asynchronous.Given as goal

abbrev pub invariant-loop-rank : goal.invariant-loop-rank
invariant-loop-rank l = find (λ e. is_asynchronous e.1) l.rank-iterator ≡ find (λ e. is_asynchronous e.1) l.self.by_rank.entries
