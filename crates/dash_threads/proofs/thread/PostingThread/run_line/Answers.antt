use Rattle.std.proofs.Common.{refl, ◌∙◌}
use Rattle.run_model.specs.Moments.{in_lockstep}
use Rattle.dash_threads.proofs.thread.PostingThread.run_line.Goals as goal

pub returns-clause-made : goal.returns-clause-made
returns-clause-made g c = λ going. c.run_unless_stopped.ensures.made going in_lockstep c.args.timed.now tt refl

pub returns-clause-passed : goal.returns-clause-passed
returns-clause-passed g c = λ going. c.run_unless_stopped.ensures.same.passed ∙ c.saturating_add-self.ensures
