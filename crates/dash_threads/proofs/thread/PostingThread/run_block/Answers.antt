use Rattle.std.proofs.Common.{◌+◌, sym, subst, arith}
use Rattle.run_model.specs.Moments.{in_lockstep}
use Rattle.dash_threads.specs.declared.thread.PostingThread.{PostingThread}
use Rattle.dash_threads.proofs.ThreadBlocks.{IsAtLine, by_line, on_line, past_lines}
use Rattle.dash_threads.proofs.thread.PostingThread.run_block.Goals as goal
use Rattle.dash_threads.proofs.thread.PostingThread.run_block.Goals.{then-line-self, else-line-self}

pub loop-line-preserved : goal.loop-line-preserved
loop-line-preserved g c =
    let s = c.args.script.now in
    let hall = c.args.hall.now in
    let t = c.args.self.now in
    let b = c.args.block.now in
    let here = c.loop-line in
    let lines = c.as_slice-line-items in
    elim c.if-line-self.branch [
      | then-line-self w ↦ subst (λ (z : PostingThread). IsAtLine in_lockstep s hall b (here.line-index + 1) t z) (sym w.self-is)
          (on_line in_lockstep s hall b here.line-index t here.self lines.result.now lines.ensures (omega (arith, c.loop-line-test.true)) here.invariant w.run_line.new.self w.if-line-self.true w.run_line.ensures.runs w.run_line.ensures.made (λ going. w.run_line.ensures.passed (w.run_line.ensures.runs.goes going)))
      | else-line-self w ↦ subst (λ (z : PostingThread). IsAtLine in_lockstep s hall b (here.line-index + 1) t z) (sym w.self-is)
          (by_line in_lockstep s hall b here.line-index t here.self lines.result.now lines.ensures (omega (arith, c.loop-line-test.true)) here.invariant w.if-line-self.false)
    ]

pub returns : goal.returns
returns g c =
    past_lines in_lockstep c.args.script.now c.args.hall.now c.args.block.now c.loop-line.line-index c.args.self.now c.loop-line.self c.as_slice-line-items.result.now c.as_slice-line-items.ensures (omega (arith, c.loop-line-test.false)) c.loop-line.invariant
