use Rattle.std.proofs.Common.{[], take}
use Rattle.run_model.specs.ByClock.{in_free_mode}
use Rattle.run_model.specs.Planned.{lines_of}
use Rattle.dash_threads.specs.Threads.{IsUpTo}
use Rattle.dash_threads.specs.AtWork.{RunsLines}
use Rattle.dash_threads.proofs.thread.PostingThread.run_by_clock.Given as goal

abbrev pub invariant-loop-block : goal.invariant-loop-block
invariant-loop-block g l =
    let m = in_free_mode (g.C.Clock.shows l.fn.timer.clock.now) l.fn.timer.start in
    let lines = lines_of l.fn.self.number (take l.block-index l.script.blocks) in
    RunsLines l.script l.hall lines (λ before after. IsUpTo m l.script [] before → IsUpTo m l.script lines after) l.fn.self l.self
