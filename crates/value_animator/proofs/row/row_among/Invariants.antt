use Rattle.std.proofs.Common.{◌≡◌, drop}
use Rattle.line_words.specs.Words.{words}
use Rattle.dash_script.specs.Form.{said_among}
use Rattle.value_animator.specs.Reading.{row_form, say_row}
use Rattle.value_animator.proofs.row.row_among.Given as goal

abbrev pub invariant-loop-kind : goal.invariant-loop-kind
invariant-loop-kind l = said_among row_form say_row (drop l.kind-index l.kinds) (words l.line) ≡ said_among row_form say_row l.kinds (words l.line)
