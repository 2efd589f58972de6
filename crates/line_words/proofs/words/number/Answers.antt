use Rattle.std.proofs.Common.{◌<◌, ◌∙◌, sym, length, arith}
use Rattle.std.proofs.lemmas.Bool.{eqb-true, eqb-false}
use Rattle.line_words.proofs.NumberReading.{number_empty, number_zero, number_short, number_other}
use Rattle.line_words.proofs.words.number.Goals as goal
use Rattle.line_words.proofs.words.number.Goals.{else-word-eq48-via-then-word-eq48+else-word-gt1, else-word-eq48-via-else-word-eq48}

pub returns-then-is_empty : goal.returns-then-is_empty
returns-then-is_empty c = number_empty c.args.word.now (eqb-true _ _ (sym c.if-is_empty.ensures))

pub returns-then-word-gt1 : goal.returns-then-word-gt1
returns-then-word-gt1 c = number_zero c.args.word.now c.if-word-gt1.true c.if-word-eq48.true

pub returns : goal.returns
returns c =
    let some : 0 < length c.args.word.now = omega (arith, eqb-false _ _ (sym c.if-is_empty.ensures)) in
    c.digits.ensures ∙ elim c.else-word-eq48.branch [
      | else-word-eq48-via-then-word-eq48+else-word-gt1 w ↦ number_short c.args.word.now (omega (arith, some, w.if-word-gt1.false))
      | else-word-eq48-via-else-word-eq48 w ↦ number_other c.args.word.now some w.if-word-eq48.false
    ]
