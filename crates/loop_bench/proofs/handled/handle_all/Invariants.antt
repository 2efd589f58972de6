-- the queue keeps its posters and its pool
use Rattle.loop_bench.specs.Seated.{IsOpened}
use Rattle.loop_bench.proofs.handled.handle_all.Given as goal

abbrev pub invariant-loop-now : goal.invariant-loop-now
invariant-loop-now g l = IsOpened l.opened
