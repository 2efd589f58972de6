use Rattle.std.proofs.Common.{◌∙◌, ap}
use Rattle.line_words.specs.Words.{words}
use Rattle.dash_script.specs.Form.{numbers_of}
use Rattle.dash_script.proofs.Forms.{has_form, no_form, no_kind}
use Rattle.value_animator.specs.Reading.{row_form, say_row}
use Rattle.value_animator.proofs.row.row_among.Goals as goal

pub returns-in-Some : goal.returns-in-Some
returns-in-Some c =
    has_form row_form say_row c.args.kinds.now (words c.args.line.now) c.loop-kind.kind-index _ c.in-Some.numbers _ c.loop-kind-test.true (c.in-Some.ensures ∙ ap (λ f. numbers_of f (words c.args.line.now)) c.form.ensures.form) c.loop-kind.invariant

pub loop-kind-preserved : goal.loop-kind-preserved
loop-kind-preserved c =
    no_form row_form say_row c.args.kinds.now (words c.args.line.now) c.loop-kind.kind-index _ _ c.loop-kind-test.true (c.in_default.ensures ∙ ap (λ f. numbers_of f (words c.args.line.now)) c.form.ensures.form) c.loop-kind.invariant

pub returns : goal.returns
returns c = no_kind row_form say_row c.args.kinds.now (words c.args.line.now) c.loop-kind.kind-index _ c.loop-kind-test.false c.loop-kind.invariant
