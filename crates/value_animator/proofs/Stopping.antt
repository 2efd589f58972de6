-- The line at which reading stops is the least bad one.
use Rattle.std.proofs.Common.{◌≡◌, ◌+◌, ℕ, List, [], ◌∷◌, ◌++◌, Option, Some, None, Result, Ok, Err, refl, sym, ap, subst, ◌∙◌, append_assoc, append-nil}
use Rattle.std.specs.List.{flat_map}
use Rattle.std.proofs.lemmas.Grind.{flat_map-append}
use Rattle.dash_script.specs.declared.refusal.Cause.{Cause}
use Rattle.dash_script.specs.declared.refusal.Cause.TheVariants as cause
use Rattle.line_words.specs.Words.{words}
use Rattle.line_words.specs.Answers.{NamesSo}
use Rattle.line_words.specs.LeastBad.{Begins, IsLeastBad}
use Rattle.line_words.specs.Refusing.{form_or, with_said}
use Rattle.line_words.specs.RefusedReading.{read_text}
use Rattle.line_words.proofs.Refusing.{failed}
use Rattle.line_words.proofs.RefusedLeast.{Reaches, fed, least_bad}
use Rattle.line_words.proofs.Answers.{AreApart}
use Rattle.value_animator.specs.declared.refusal.ParsedValues.{ParsedValues}
use Rattle.value_animator.specs.declared.refusal.ParsedValues.TheVariants as parsed
use Rattle.value_animator.specs.declared.row.Row.{Row}
use Rattle.value_animator.specs.declared.plan.Values.{Values}
use Rattle.value_animator.specs.Reading.{row_of}
use Rattle.value_animator.specs.Plans.{row_text}
use Rattle.value_animator.specs.Reading.{SoFar, empty_so_far, row_cause}
use Rattle.value_animator.specs.Reading.{IsPlanText, plans}
use Rattle.value_animator.proofs.Rows.{row_taken}
use Rattle.value_animator.proofs.Lines.{good_is}
use Rattle.value_animator.proofs.Running.{among_counted}
use Rattle.value_animator.proofs.Holding.{rows_in, SoundIn, step}
use Rattle.value_animator.proofs.Continuing.{begins}

-- what these lines hold
record Holds (done : List (List ℕ)) (d : SoFar) : Type 0 where
  pub sound : SoundIn d.stage d
  pub text : fed done ≡ flat_map row_text (rows_in d.stage d)

holds_line : (done : List (List ℕ)) (d : SoFar) (p : List ℕ) (o : Option Row) → Holds done d → row_of p ≡ o → form_or cause.Form (row_cause d) o ≡ None → Holds (done ++ p ∷ []) (with_said plans d o)
holds_line done d p None h is e = absurd cc
holds_line done d p (Some r) h read good =
    let one = step d.stage d.open_plan r.kind d.period d.things r.numbers (among_counted (words p) r read) (good_is d r good) h.sound in
    record {
      sound = one.sound;
      text = flat_map-append (λ p. p ++ 10 ∷ []) done (p ∷ []) ∙ ap (λ l. fed done ++ l) (append-nil (p ++ 10 ∷ []) ∙ row_taken p r read)
          ∙ ap (λ l. l ++ row_text r) h.text ∙ ap (λ l. flat_map row_text (rows_in d.stage d) ++ l) (sym (append-nil (row_text r)))
          ∙ sym (flat_map-append row_text (rows_in d.stage d) (r ∷ [])) ∙ ap (flat_map row_text) (sym one.rows);
    }

holds_more : (ps done : List (List ℕ)) (k : ℕ) (d e : SoFar) → Holds done d → Reaches plans k d ps e → Holds (done ++ ps) e
holds_more [] done k d e h r = subst (λ l. Holds l e) (sym (append-nil done)) (subst (Holds done) r h)
holds_more (p ∷ ps) done k d e h r =
    subst (λ l. Holds l e) (append_assoc done (p ∷ []) ps)
    (holds_more ps (done ++ p ∷ []) (k + 1) (with_said plans d (row_of p)) e (holds_line done d p (row_of p) h refl r.0) r.1)

begins_all : (ps : List (List ℕ)) (d : SoFar) → Reaches plans 1 empty_so_far ps d → Begins IsPlanText (fed ps)
begins_all ps d r =
    let h : Holds ps d = holds_more ps [] 1 empty_so_far d (record { sound = (refl, refl); text = refl }) r in subst (Begins IsPlanText) (sym h.text) (begins d h.sound)

read_of : ParsedValues → Result Values (ℕ × Cause)
read_of (parsed.Ok v) = Ok v
read_of (parsed.Bad line c) = Err (line, c)
read_of parsed.NoMemory = Err (0, cause.Form)

pub apart : AreApart parsed.Ok parsed.Bad
unfolding read_of
apart = record { read = read_of; of_ok = λ v. refl; of_bad = λ line c. refl }

pub names_least : (b : List ℕ) (line : ℕ) (cause : Cause) → read_text plans b ≡ failed line cause → NamesSo parsed.Bad (IsLeastBad IsPlanText) (parsed.Bad line cause) b
names_least b line cause h l c e = least_bad plans begins_all b l c (h ∙ sym (apart.of_bad line cause) ∙ ap apart.read e ∙ apart.of_bad l c)
