-- A text is one of values exactly where it is theirs.
use Rattle.std.proofs.Common.{◌≡◌, ℕ, List, refl, sym, ap, ◌∙◌}
use Rattle.std.specs.Prelude.{◌↔◌}
use Rattle.std.specs.List.{flat_map}
use Rattle.dash_script.specs.declared.refusal.Cause.{Cause}
use Rattle.line_words.specs.RefusedReading.{read_text}
use Rattle.line_words.proofs.Refusing.{answer, same_answer, reads_texts}
use Rattle.line_words.proofs.RefusedLines.{texts_ran}
use Rattle.value_animator.specs.declared.plan.Values.{Values}
use Rattle.value_animator.specs.Plans.{AreValues, IsWritten, row_text, values_text}
use Rattle.value_animator.specs.Reading.{empty_so_far}
use Rattle.value_animator.specs.Reading.{IsPlanText, plans}
use Rattle.value_animator.proofs.Running.{spelled}
use Rattle.value_animator.proofs.Leading.{texts_are_read}
use Rattle.value_animator.proofs.Holding.{Held, held}

-- what is read is the text of what was read
pub text_read : (b : List ℕ) (v : Values) → read_text plans b ≡ answer v → (b ≡ values_text v) × AreValues v
text_read b v h =
    let r = texts_ran spelled b v h in
    let whole : Held empty_so_far r.lines v = held r.lines 1 empty_so_far v r.counted (refl, refl) r.runs in
    (r.text ∙ ap (flat_map row_text) whole.rows_are, whole.limits)

-- the text of values is read as theirs
pub text_again : (b : List ℕ) (v : Values) → (b ≡ values_text v) × AreValues v → read_text plans b ≡ answer v
text_again b v is = ap (read_text plans) is.0 ∙ texts_are_read v is.1

-- what a text is one of is within the limits, and the text is what it is written as
pub written_so : (b : List ℕ) (v : Values) → IsPlanText b v → IsWritten b v
written_so b v is = text_read b v ((reads_texts plans b v).1 is)

pub are_theirs : (b : List ℕ) (v : Values) → IsPlanText b v ↔ IsWritten b v
are_theirs b v = (written_so b v, λ is. (reads_texts plans b v).0 (text_again b v is))

-- two values that have one text are the same
pub one_text : (v w : Values) → AreValues v → AreValues w → values_text v ≡ values_text w → v ≡ w
one_text v w h g e = same_answer {C = Cause} v w (sym (texts_are_read v h) ∙ (ap (read_text plans) e ∙ texts_are_read w g))
