use Rattle.std.proofs.Common.{◌∙◌, ap, []}
use Rattle.loop_model.specs.Counters.{setting}
use Rattle.loop_model.specs.Listed.{listed_answer}
use Rattle.loop_model.proofs.CounterLaws.{answers_alike}
use Rattle.loop_model.proofs.PlainLaws.{fold_answers}
use Rattle.loop_model.proofs.plain.answer.Goals as goal

pub returns : goal.returns
returns c =
    let state = c.in_ok-state.state in
    let s = setting c.args.main c.args.lockstep in
    c.answer.ensures ∙ (answers_alike s state.length state.counters [] state.items.items c.args.call.now
    ∙ (ap (λ b. listed_answer s b c.args.call.now) c.in_ok-state.ensures ∙ fold_answers s c.args.entries.now c.args.call.now))
