-- What a reader answers of a text whose lines may be refused, by what is read.
use Rattle.std.proofs.Common.{◌≡◌, ℕ, List, Result, Ok, Err, sym, ap, subst, ◌∙◌, inl}
use Rattle.line_words.specs.Refusing.{Language, IsTextOf, IsRefusalOf}
use Rattle.line_words.specs.RefusedReading.{read_text}
use Rattle.line_words.specs.Answers.{Finds, FindsAll, Refuses, RefusesAll}
use Rattle.line_words.proofs.Refusing.{answer, failed, same_answer, not_both, same_line, same_cause, reads_texts, reads_refusals}

-- what each answer says of what is read
pub record AreApart {P T C : Type 0} (ok : T → P) (bad : ℕ → C → P) : Type 0 where
  pub read : P → Result T (ℕ × C)
  pub of_ok : (t : T) → read (ok t) ≡ Ok t
  pub of_bad : (line : ℕ) (c : C) → read (bad line c) ≡ Err (line, c)

module _ {P L D T C : Type 0} {ok : T → P} {bad : ℕ → C → P} (memory : P) (r : Language L D T C) (a : AreApart ok bad) (b : List ℕ) where
  pub no_text : (line : ℕ) (c : C) (t : T) → read_text r b ≡ failed line c → IsTextOf r b t → ⊥
  no_text line c t h is = not_both line c t (sym h ∙ (reads_texts r b t).1 is)

  pub found_in : (t : T) → read_text r b ≡ answer t → Finds ok (IsTextOf r) (ok t) b
  found_in t h s e =
      let same : t ≡ s = same_answer t s (sym (a.of_ok t) ∙ ap a.read e ∙ a.of_ok s) in subst (λ (x : T). IsTextOf r b x) same ((reads_texts r b t).0 h)

  pub found_only : (t : T) → read_text r b ≡ answer t → FindsAll ok memory (IsTextOf r) (ok t) b
  found_only t h s is = inl (ap ok (same_answer t s (sym h ∙ (reads_texts r b s).1 is)))

  pub found_never : (line : ℕ) (c : C) → read_text r b ≡ failed line c → FindsAll ok memory (IsTextOf r) (bad line c) b
  found_never line c h t is = absurd (no_text line c t h is)

  pub refused_as : (line : ℕ) (c : C) → read_text r b ≡ failed line c → Refuses bad (IsRefusalOf r) (IsTextOf r) (bad line c) b
  refused_as line c h l d e = ((reads_refusals r b l d).0 (h ∙ sym (a.of_bad line c) ∙ ap a.read e ∙ a.of_bad l d), λ t is. no_text line c t h is)

  pub refused_never : (t : T) → read_text r b ≡ answer t → RefusesAll bad memory (IsRefusalOf r) (ok t) b
  refused_never t h line c is = absurd (not_both line c t (sym ((reads_refusals r b line c).1 is) ∙ h))

  pub refused_so : (line : ℕ) (c : C) → read_text r b ≡ failed line c → RefusesAll bad memory (IsRefusalOf r) (bad line c) b
  refused_so line c h l d is =
      let e : failed line c ≡ failed l d = sym h ∙ (reads_refusals r b l d).1 is in
      inl (ap (λ (n : ℕ). bad n c) (same_line {T = T} line l c d e) ∙ ap (bad l) (same_cause {T = T} line l c d e))
