use Rattle.std.proofs.Common.{◌+◌, sym, subst, arith}
use Rattle.run_model.specs.Moments.{Mode}
use Rattle.run_model.specs.ByClock.{in_free_mode}
use Rattle.dash_threads.specs.declared.thread.PostingThread.{PostingThread}
use Rattle.dash_threads.proofs.ThreadBlocks.{IsAtLine, by_line, on_line, past_lines}
use Rattle.dash_threads.proofs.thread.PostingThread.run_block_by_clock.Goals as goal
use Rattle.dash_threads.proofs.thread.PostingThread.run_block_by_clock.Goals.{then-line-self, else-line-self}

pub loop-line-preserved : goal.loop-line-preserved
loop-line-preserved g c =
    let s = c.args.script.now in
    let hall = c.args.hall.now in
    let t = c.args.self.now in
    let b = c.args.block.now in
    let m : Mode = in_free_mode (g.C.Clock.shows c.args.pace.now.timer.now.clock.now) c.args.pace.now.timer.now.start in
    let here = c.loop-line in
    let i = here.line-index in
    let lines = c.as_slice-line-items in
    elim c.if-line-self.branch [
      | then-line-self w ↦ subst (λ (z : PostingThread). IsAtLine m s hall b (i + 1) t z) (sym w.self-is) (
          let ran = w.run_line_by_clock.ensures in
          on_line m s hall b i t here.self lines.result.now lines.ensures (omega (arith, c.loop-line-test.true)) here.invariant w.run_line_by_clock.new.self w.if-line-self.true
          ran.runs ran.made ran.passed)
      | else-line-self w ↦ subst (λ (z : PostingThread). IsAtLine m s hall b (i + 1) t z) (sym w.self-is) (by_line m s hall b i t here.self lines.result.now lines.ensures (omega (arith, c.loop-line-test.true)) here.invariant w.if-line-self.false)
    ]

pub returns : goal.returns
returns g c =
    let m : Mode = in_free_mode (g.C.Clock.shows c.args.pace.now.timer.now.clock.now) c.args.pace.now.timer.now.start in
    past_lines m c.args.script.now c.args.hall.now c.args.block.now c.loop-line.line-index c.args.self.now c.loop-line.self c.as_slice-line-items.result.now c.as_slice-line-items.ensures (omega (arith, c.loop-line-test.false)) c.loop-line.invariant
