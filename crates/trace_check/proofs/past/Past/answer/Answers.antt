use Rattle.std.proofs.Common.{◌∙◌, []}
use Rattle.loop_model.specs.Counters.{setting}
use Rattle.loop_model.proofs.CounterLaws.{answers_alike}
use Rattle.trace_check.specs.Ranks.{listed}
use Rattle.trace_check.proofs.past.Past.answer.Goals as goal

pub returns : goal.returns
returns c =
    let p = c.args.self.now in
    c.answer.ensures ∙ answers_alike (setting c.args.main c.args.lockstep) p.length p.counters [] (listed p.items) c.args.call.now
