use Rattle.std.proofs.Common.{◌≡◌, ◌<◌, ◌≤◌, ◌∙◌, List, length, get_or, ap, subst, arith}
use Rattle.std.proofs.lemmas.List.{take_all}
use Rattle.dash_script.specs.declared.script.Block.{Block}
use Rattle.run_model.specs.Moments.{Mode}
use Rattle.run_model.specs.ByClock.{in_free_mode}
use Rattle.run_model.specs.Planned.{lines_of}
use Rattle.dash_threads.specs.Threads.{IsUpTo, passes_more}
use Rattle.dash_threads.proofs.ThreadBlocks.{runs_on, block_goes_on, block_passed}
use Rattle.dash_threads.proofs.thread.PostingThread.run_by_clock.Goals as goal

pub loop-block-preserved : goal.loop-block-preserved
loop-block-preserved g c =
    let s = c.args.script.now in
    let m : Mode = in_free_mode (g.C.Clock.shows c.args.timer.now.clock.now) c.args.timer.now.start in
    let i = c.loop-block.block-index in
    let b = c.block-item.result in
    let is : b ≡ get_or s.blocks i b = c.block-item.is ∙ ap (λ (xs : List Block). get_or xs i b) c.as_slice-block-items.ensures in
    let near : i < length s.blocks = omega (arith, ap (λ (xs : List Block). length xs) c.as_slice-block-items.ensures, c.loop-block-test.true) in
    let ran = c.run_block_by_clock.ensures in
    record {
      runs = runs_on s c.args.hall.now c.args.self.now c.loop-block.self c.run_block_by_clock.new.self c.loop-block.invariant.runs ran.runs;
      made = λ going. block_goes_on m s i b b c.args.self.now c.loop-block.self c.run_block_by_clock.new.self near is c.loop-block.invariant.runs.number (c.loop-block.invariant.made (ran.runs.goes going)) (ran.made going);
      passed = λ going. block_passed s i b b c.args.self.now c.loop-block.self c.run_block_by_clock.new.self near is c.loop-block.invariant.runs.number (c.loop-block.invariant.passed (ran.runs.goes going)) (ran.passed going);
    }

pub returns : goal.returns
returns g c =
    let t = c.args.self.now in
    let bs = c.args.script.now.blocks in
    let m : Mode = in_free_mode (g.C.Clock.shows c.args.timer.now.clock.now) c.args.timer.now.start in
    let far : length bs ≤ c.loop-block.block-index = omega (arith, ap (λ (xs : List Block). length xs) c.as_slice-block-items.ensures, c.loop-block-test.false) in
    let all = take_all c.loop-block.block-index bs far in
    record {
      runs = c.loop-block.invariant.runs;
      made = λ going begun. subst (λ (xs : List Block). IsUpTo m c.args.script.now (lines_of t.number xs) c.loop-block.self) all (c.loop-block.invariant.made going begun);
      passed = λ going. c.loop-block.invariant.passed going ∙ ap (λ (xs : List Block). passes_more (length (lines_of t.number xs)) t.passed) all;
    }
