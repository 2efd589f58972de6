use Rattle.std.proofs.Common.{ℕ, Option, sym, ap, ◌∙◌}
use Rattle.dash_threads.specs.Threads.{rungs_of, more_for}
use Rattle.dash_threads.proofs.ThreadRuns.{rings_none}
use Rattle.dash_threads.proofs.thread.PostingThread.nudge_for.Goals as goal

pub returns-in-Some : goal.returns-in-Some
returns-in-Some g c = record {
  thread = c.nudge.ensures.thread;
  kept = c.nudge.ensures.kept;
  rung = c.nudge.ensures.rung ∙ ap (λ (o : Option ℕ). more_for o (rungs_of c.args.self.now)) (sym c.in-Some.is ∙ c.woken_by.ensures);
}

pub returns-in-None : goal.returns-in-None
returns-in-None g c = rings_none c.args.script.now c.args.hall.now c.args.self.now _ c.requires.at_work.thread (ap (λ (o : Option ℕ). more_for o (rungs_of c.args.self.now)) (sym c.in-None.is ∙ c.woken_by.ensures))
