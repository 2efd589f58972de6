use Rattle.run_model.specs.Moments.{in_lockstep}
use Rattle.dash_threads.proofs.ThreadBlocks.{IsAtLine}
use Rattle.dash_threads.proofs.thread.PostingThread.run_block.Given as goal

abbrev pub invariant-loop-line : goal.invariant-loop-line
invariant-loop-line g l = IsAtLine in_lockstep l.script l.hall l.block l.line-index l.fn.self l.self
