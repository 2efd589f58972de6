use Rattle.std.proofs.Common.{◌∙◌, List, Ok, sym, ap}
use Rattle.line_words.proofs.RefusedLines.{ended, stopped}
use Rattle.value_animator.specs.declared.plan.Thing.{Thing}
use Rattle.value_animator.specs.declared.plan.Values.{Values}
use Rattle.value_animator.specs.Drafts.{so_far}
use Rattle.value_animator.specs.Reading.{plans}
use Rattle.value_animator.proofs.Running.{spelled}
use Rattle.value_animator.proofs.draft.DraftByLines.end.Goals as goal

pub returns-in-Some : goal.returns-in-Some
returns-in-Some c = stopped plans c.args.line (so_far c.args.self) c.args.bytes.now c.in-Some.cause (sym c.in-Some.ensures)

pub returns : goal.returns
returns c =
    let values : List Thing → Values = λ things. record { period = c.args.self.period; things = things } in
    ended spelled c.args.line (so_far c.args.self) c.args.bytes.now (sym c.in_default.ensures) ∙ ap (λ things. Ok (values things)) (sym c.from_vec.ensures)
