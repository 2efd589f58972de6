use Rattle.std.proofs.Common.{◌≡◌}
use Rattle.message_queue_c.proofs.spares.Spares.reserve.Given as goal

abbrev pub invariant-loop : goal.invariant-loop
invariant-loop l = l.self.wanted ≡ l.fn.count
