use Rattle.run_model.specs.ByClock.{in_free_mode}
use Rattle.dash_threads.proofs.ThreadBlocks.{IsAtLine}
use Rattle.dash_threads.proofs.thread.PostingThread.run_block_by_clock.Given as goal

abbrev pub invariant-loop-line : goal.invariant-loop-line
invariant-loop-line g l = IsAtLine (in_free_mode (g.C.Clock.shows l.pace.timer.now.clock.now) l.pace.timer.now.start) l.script l.hall l.block l.line-index l.fn.self l.self
