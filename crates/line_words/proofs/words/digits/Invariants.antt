use Rattle.std.proofs.Common.{◌≡◌, drop}
use Rattle.line_words.specs.Rests.{digits_from}
use Rattle.line_words.proofs.words.digits.Given as goal

abbrev pub invariant-loop-digit : goal.invariant-loop-digit
invariant-loop-digit l = digits_from l.value (drop l.digit-index l.word) ≡ digits_from 0 l.word
