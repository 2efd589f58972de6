-- Rows in place of bytes, and rows without a cause.
use Rattle.std.proofs.Common.{◌≡◌, ◌+◌, ◌==◌, ℕ, true, false, Bool, List, [], ◌∷◌, ◌++◌, length, Some, None, Ok, refl, sym, ap, ◌∙◌, subst}
use Rattle.std.proofs.lemmas.Bool.{eqb-true}
use Rattle.std.proofs.lemmas.List.{nil_from_length}
use Rattle.line_words.specs.Words.{words}
use Rattle.line_words.specs.RefusedReading.{run}
use Rattle.line_words.proofs.RefusedLines.{IsSpelled}
use Rattle.dash_script.specs.Form.{said_among, numbers_of}
use Rattle.dash_script.specs.Writing.{hole_count}
use Rattle.dash_script.proofs.Lines.{numbers_counted}
use Rattle.dash_script.proofs.Forms.{among_said}
use Rattle.value_animator.specs.declared.row.Row.{Row}
use Rattle.value_animator.specs.Reading.{row_form, all_row_kinds, say_row, row_of}
use Rattle.value_animator.specs.Plans.{row_text}
use Rattle.value_animator.specs.Reading.{SoFar, with_row, is_ended_stage}
use Rattle.value_animator.specs.Reading.{plans, values_of, plan_stop_cause}
use Rattle.value_animator.proofs.Rows.{IsWhole, row_bytes, row_first, row_again, row_taken}
use Rattle.value_animator.proofs.Lines.{IsGood, is_good}

-- a row has a number for each hole of its form
abbrev pub IsCounted : Row → Type 0
IsCounted r = hole_count (row_form r.kind) ≡ length r.numbers

pub among_counted : (ws : List (List ℕ)) (r : Row) → said_among row_form say_row all_row_kinds ws ≡ Some r → IsCounted r
among_counted ws r e =
    let p = among_said row_form say_row all_row_kinds ws r e in
    subst (λ (x : Row). hole_count (row_form x.kind) ≡ length x.numbers) p.2 (numbers_counted (row_form p.0) ws p.1 p.3)

fed : (d : SoFar) (rest : List ℕ) → plan_stop_cause d rest ≡ None → rest ≡ []
fed d rest h = by_test (length rest == 0) refl h
  where
    by_test : (b : Bool) → (length rest == 0) ≡ b → plan_stop_cause d rest ≡ None → rest ≡ []
    by_test true is h = nil_from_length rest (eqb-true (length rest) 0 is)
    by_test false is h = let wrong = rw is at h in absurd cc

pub nothing_said : row_of [] ≡ None
unfolding said_among numbers_of
nothing_said = refl

pub spelled : IsSpelled plans row_text IsWhole IsCounted
spelled = record {
  again = λ r rest whole. (row_bytes r, row_first r rest whole, row_again r whole);
  taken = λ line r e. (row_taken line r e, among_counted (words line) r e);
  empty = nothing_said;
  formless = λ k d h. absurd cc;
  fed = λ k d rest h. fed d rest h;
}

-- ---- rows without a cause

-- each row is good where it stands, and they lead from one state to another
abbrev pub Leads : SoFar → List Row → SoFar → Type 0
Leads d [] e = d ≡ e
Leads d (r ∷ rs) e = IsGood d r × Leads (with_row d r.kind r.numbers) rs e

pub leads-append : (xs ys : List Row) (d e f : SoFar) → Leads d xs e → Leads e ys f → Leads d (xs ++ ys) f
leads-append [] ys d e f h more = subst (λ x. Leads x ys f) (sym h) more
leads-append (x ∷ xs) ys d e f h more = (h.0, leads-append xs ys (with_row d x.kind x.numbers) e f h.1 more)

pub leads_run : (rs : List Row) (k : ℕ) (d e : SoFar) → Leads d rs e → is_ended_stage e.stage ≡ true → run plans k d rs ≡ Ok (values_of e)
unfolding run
leads_run [] k d e h is =
    let same : is_ended_stage d.stage ≡ true = ap (λ x. is_ended_stage x.stage) h ∙ is in
    rw same (ap (λ x. Ok (values_of x)) h)
leads_run (r ∷ rs) k d e h is = rw (is_good d r h.0) (leads_run rs (k + 1) (with_row d r.kind r.numbers) e h.1 is)
