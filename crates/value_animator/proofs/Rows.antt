-- The line of a row: what is read is spelled so, and what is spelled is read so.
use Rattle.std.proofs.Common.{◌≡◌, ℕ, List, [], ◌∷◌, ◌++◌, length, Some, refl, sym, ap, subst, ◌∙◌, inl, inr}
use Rattle.std.specs.List.{join_with_byte}
use Rattle.std.proofs.lemmas.Option.{none-some}
use Rattle.std.proofs.lemmas.List.Splits.{join_with_byte-slice_split}
use Rattle.line_words.specs.Words.{words, pieces, spelled_number}
use Rattle.dash_script.specs.Form.{filled, numbers_of, said_among}
use Rattle.dash_script.specs.Writing.{hole_count}
use Rattle.dash_script.specs.Laws.{AllSmall}
use Rattle.dash_script.proofs.Forms.{FirstFits, clash, clash_slot, numbers_taken, among_said, words_said}
use Rattle.dash_script.proofs.Texts.{line_says, filled_first}
use Rattle.value_animator.specs.declared.row.RowKind.{RowKind}
use Rattle.value_animator.specs.declared.row.RowKind.TheVariants as kind
use Rattle.value_animator.specs.declared.row.Row.{Row}
use Rattle.value_animator.specs.Reading.{row_form, all_row_kinds, say_row, row_of}
use Rattle.value_animator.specs.Plans.{row_text}

-- a line that is read is the line of what was read
pub row_taken : (line : List ℕ) (r : Row) → row_of line ≡ Some r → line ++ 10 ∷ [] ≡ row_text r
unfolding row_text
row_taken line r e =
    let p = among_said row_form say_row all_row_kinds (words line) r e in
    let spelled = ap (join_with_byte 32) (numbers_taken (row_form p.0) (words line) p.1 p.3) ∙ join_with_byte-slice_split 32 line in
    subst (λ (x : Row). line ++ 10 ∷ [] ≡ join_with_byte 32 (filled (row_form x.kind) x.numbers) ++ 10 ∷ []) p.2 (ap (λ t. t ++ 10 ∷ []) (sym spelled))

-- there is a number below 2 to the 64 for each hole of the form, and no other
abbrev pub IsWhole : Row → Type 0
IsWhole r = (hole_count (row_form r.kind) ≡ length r.numbers) × AllSmall r.numbers

first_fits : (k : RowKind) → FirstFits row_form all_row_kinds k
unfolding FirstFits clash clash_slot spelled_number
first_fits kind.Head = inl refl
first_fits kind.Period = inr (refl, inl refl)
first_fits kind.Countdown = inr (refl, inr (refl, inl refl))
first_fits kind.Restart = inr (refl, inr (refl, inr (refl, inl refl)))
first_fits kind.Reverse = inr (refl, inr (refl, inr (refl, inr (refl, inl refl))))
first_fits kind.Key = inr (refl, inr (refl, inr (refl, inr (refl, inr (refl, inl refl)))))
first_fits kind.End = inr (refl, inr (refl, inr (refl, inr (refl, inr (refl, inr (refl, inl refl))))))

nothing_said : (r : Row) → said_among row_form say_row all_row_kinds [] ≡ Some r → ⊥
unfolding said_among numbers_of
nothing_said r e = none-some r e

-- the line of a row, without its line feed
abbrev pub row_bytes : Row → List ℕ
row_bytes r = join_with_byte 32 (filled (row_form r.kind) r.numbers)

-- it is read as the row
pub row_again : (r : Row) → IsWhole r → row_of (row_bytes r) ≡ Some r
row_again r whole = line_says row_form say_row all_row_kinds r.kind r.numbers r (nothing_said r) whole.1 (words_said row_form say_row all_row_kinds r.kind r.numbers (first_fits r.kind) whole.0 whole.1)

-- and it is the first piece of a text that begins with it
pub row_first : (r : Row) (rest : List ℕ) → IsWhole r → pieces (row_text r ++ rest) ≡ row_bytes r ∷ pieces rest
unfolding row_text
row_first r rest whole = filled_first (row_form r.kind) r.numbers rest whole.1
