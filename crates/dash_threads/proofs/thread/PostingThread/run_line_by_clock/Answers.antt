use Rattle.std.proofs.Common.{Bool, true≢false, refl, sym, ap, ◌∙◌, subst}
use Rattle.run_model.specs.Moments.{Mode}
use Rattle.run_model.specs.ByClock.{in_free_mode}
use Rattle.dash_threads.specs.declared.thread.PostingThread.{PostingThread}
use Rattle.dash_threads.specs.Threads.{TakesAt, rungs_of, more_for, looper_woken}
use Rattle.dash_threads.proofs.ThreadShares.{takes_at}
use Rattle.dash_threads.proofs.thread.PostingThread.run_line_by_clock.Goals as goal

pub returns-clause-runs : goal.returns-clause-runs
returns-clause-runs g c = record {
  thread = c.run_at.ensures.same.thread;
  number = c.run_at.ensures.same.number ∙ ap (λ (z : PostingThread). z.number) c.wait_for.ensures.same;
  goes = λ going. c.if-self.false;
  stays = λ up. absurd (true≢false (sym up ∙ c.if-self.false));
}

pub returns-clause-passed : goal.returns-clause-passed
returns-clause-passed g c = λ going. c.run_at.ensures.same.passed ∙ c.in-Ok.ensures.passed

pub returns-clause-made : goal.returns-clause-made
returns-clause-made g c = λ going. (
    let m : Mode = in_free_mode (g.C.Clock.shows c.args.pace.now.timer.now.clock.now) c.args.pace.now.timer.now.start in
    let s = c.args.script.now in
    let v = c.wait_for.new.self in
    let w = c.run_at.new.self in
    let now = c.in-Ok.now in
    let command = c.args.timed.command in
    takes_at m s c.args.timed.now command c.args.self.now v w now v.passed refl c.wait_for.ensures.same c.in-Ok.ensures.moment
    (subst (λ (f : Bool). TakesAt f s now command v w) c.requires.mode (c.run_at.ensures.made going)))

pub returns-clause-rung : goal.returns-clause-rung
returns-clause-rung g c = λ going.
    c.run_at.ensures.rung going ∙ ap (λ (z : PostingThread). more_for (looper_woken c.args.timed.command) (rungs_of z)) c.wait_for.ensures.same
