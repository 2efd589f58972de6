use Rattle.std.proofs.Common.{◌≡◌, All}
use Rattle.message_pool.specs.Obtain.{IsNodeOf}
use Rattle.model_tests.proofs.pools.draw.Given as goal

abbrev pub invariant-loop : goal.invariant-loop
invariant-loop l = (l.pass.home ≡ l.pool) × All (IsNodeOf l.pool) l.nodes.items
