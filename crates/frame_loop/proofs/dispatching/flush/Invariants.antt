use Rattle.plain_loop.specs.Lines.{KeepsLine, way_of}
use Rattle.frame_loop.proofs.dispatching.flush.Given as goal

abbrev pub invariant-loop-sending : goal.invariant-loop-sending
invariant-loop-sending g l = KeepsLine (way_of l.initial.line) (way_of l.line)
