use Rattle.std.proofs.Common.{◌∙◌, sym, ap, arith}
use Rattle.value_animator.specs.Reading.{is_within_limits}
use Rattle.dash_script.proofs.Testing.{past_word, past_number, not_passed, all_passed}
use Rattle.value_animator.proofs.draft.numbers_fit.Goals as goal
use Rattle.value_animator.proofs.draft.numbers_fit.Goals.{in-Word, in-Number+else-not-is_within}

pub returns-then-not-is_within : goal.returns-then-not-is_within
returns-then-not-is_within c =
    not_passed is_within_limits c.args.form.now c.args.numbers.now c.loop-slot.slot-index c.loop-slot.place _ c.in-Number.role _ c.loop-slot-test.true c.in-Number.is
    (ap (is_within_limits c.in-Number.role) (sym c.at.ensures) ∙ sym c.is_within.ensures ∙ c.if-not-is_within.true) c.loop-slot.invariant.tested

pub loop-slot-preserved : goal.loop-slot-preserved
loop-slot-preserved c =
    elim c.match-slot.branch [
      | in-Word w ↦ record {
        within = omega (arith, w.place-is, c.loop-slot.invariant.within);
        tested = rw w.place-is (past_word is_within_limits c.args.form.now c.args.numbers.now c.loop-slot.slot-index c.loop-slot.place _ w.in-Word.field-0 _ c.loop-slot-test.true w.in-Word.is c.loop-slot.invariant.tested);
      }
      | in-Number+else-not-is_within w ↦ record {
        within = omega (arith, w.place-is, c.loop-slot.invariant.within);
        tested = rw w.place-is (past_number is_within_limits c.args.form.now c.args.numbers.now c.loop-slot.slot-index c.loop-slot.place _ w.in-Number.role _ c.loop-slot-test.true w.in-Number.is
            (ap (is_within_limits w.in-Number.role) (sym w.at.ensures) ∙ sym w.is_within.ensures ∙ w.if-not-is_within.false) c.loop-slot.invariant.tested);
      }
    ]

pub returns : goal.returns
returns c = all_passed is_within_limits c.args.form.now c.args.numbers.now c.loop-slot.slot-index c.loop-slot.place _ c.loop-slot-test.false c.loop-slot.invariant.tested
