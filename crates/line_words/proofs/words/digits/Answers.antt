use Rattle.std.proofs.Common.{◌∙◌, sym, arith}
use Rattle.line_words.proofs.NumberReading.{no_digit, too_large, one_more, at_end}
use Rattle.line_words.proofs.words.digits.Goals as goal

pub returns-then-not-is_ascii_digit : goal.returns-then-not-is_ascii_digit
returns-then-not-is_ascii_digit c =
    no_digit c.loop-digit.value c.loop-digit.digit-index c.args.word.now _ c.loop-digit-test.true (sym c.if-not-is_ascii_digit.ensures.value) c.loop-digit.invariant

pub returns-in_err-checked_mul : goal.returns-in_err-checked_mul
returns-in_err-checked_mul c =
    c.from_residual.ensures ∙ too_large c.loop-digit.value c.loop-digit.digit-index c.args.word.now _ c.loop-digit-test.true (omega (arith, c.in_err-checked_mul.ensures)) c.loop-digit.invariant

pub returns-in_err-value : goal.returns-in_err-value
returns-in_err-value c =
    c.from_residual-in_err-value.ensures
    ∙ too_large c.loop-digit.value c.loop-digit.digit-index c.args.word.now _ c.loop-digit-test.true (omega (arith, c.in_err-value.ensures, c.in_ok-checked_mul.ensures.1, c.from.ensures)) c.loop-digit.invariant

pub loop-digit-preserved : goal.loop-digit-preserved
loop-digit-preserved c =
    one_more c.loop-digit.value c.loop-digit.digit-index c.in_ok-value.value c.args.word.now _ c.loop-digit-test.true (sym c.is_ascii_digit.ensures.value ∙ c.if-not-is_ascii_digit.false)
    (omega (arith, c.in_ok-value.ensures.1, c.in_ok-checked_mul.ensures.1, c.from.ensures)) (omega (arith, c.in_ok-value.ensures.0, c.in_ok-value.ensures.1)) c.loop-digit.invariant

pub returns : goal.returns
returns c = at_end c.loop-digit.value c.loop-digit.digit-index c.args.word.now _ c.loop-digit-test.false c.loop-digit.invariant
