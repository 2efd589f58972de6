-- the way stays ready, and the same
use Rattle.handler_post.specs.Ways.{IsReady, IsSameWay}
use Rattle.loop_bench.proofs.handled.take_each.Given as goal

abbrev pub invariant-loop : goal.invariant-loop
invariant-loop g l = IsReady l.way × IsSameWay l.initial.way l.way
