use Rattle.value_animator.proofs.Ended.{stays_ended}
use Rattle.value_animator.proofs.runner.Runner.ask.Goals as goal

pub returns-in-Ended-clause-after : goal.returns-in-Ended-clause-after
returns-in-Ended-clause-after c = λ thing times is. stays_ended thing times c.args.time c.args.self.now c.in-Ended.is is
