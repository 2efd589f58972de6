-- The parts of a list of bytes, one at a time.
use Rattle.std.proofs.Common.{◌≡◌, ◌<◌, ◌≤◌, ◌+◌, ◌-◌, ℕ, eqb, false, List, [], ◌∷◌, ◌++◌, length, get_or, take, drop, refl, sym, ap, ◌∙◌, inl, inr}
use Rattle.std.specs.Prelude.{All}
use Rattle.std.specs.List.{onto_first}
use Rattle.std.proofs.lemmas.Bool.{cases_Bool, eq-eqb, ne_eqb}
use Rattle.std.proofs.lemmas.List.{take-append-drop, drop_more, take_more, take_rest, take_all}
use Rattle.std.proofs.lemmas.List.Elements.{All-push}
use Rattle.std.proofs.lemmas.List.Splits.{slice_split_at, slice_split_none, slice_split-cons_yes, slice_split-cons_no}
use Rattle.line_words.specs.Words.{parts}

abbrev pub NotAmong : ℕ → List ℕ → Type 0
NotAmong byte bytes = All (λ b. eqb b byte ≡ false) bytes

pub parts_found : (byte : ℕ) (bytes : List ℕ) (i : ℕ) → i < length bytes → NotAmong byte (take i bytes) → get_or bytes i 0 ≡ byte
    → parts byte bytes ≡ take i bytes ∷ parts byte (take (length bytes - (i + 1)) (drop (i + 1) bytes))
parts_found byte bytes i lt none e =
    let cut : bytes ≡ take i bytes ++ byte ∷ drop (i + 1) bytes = sym (take-append-drop i bytes) ∙ ap (λ t. take i bytes ++ t) (drop_more bytes i 0 lt ∙ ap (λ b. b ∷ drop (i + 1) bytes) e) in
    ap (parts byte) cut ∙ slice_split_at (λ b. eqb b byte) (take i bytes) byte (drop (i + 1) bytes) none (eq-eqb byte byte refl)
    ∙ ap (λ t. take i bytes ∷ parts byte t) (sym (take_rest bytes (i + 1)))

pub parts_none : (byte : ℕ) (bytes : List ℕ) (i : ℕ) → length bytes ≤ i → NotAmong byte (take i bytes) → parts byte bytes ≡ bytes ∷ []
parts_none byte bytes i le none = slice_split_none (λ b. eqb b byte) bytes (rw (← take_all i bytes le) none)

pub not_among_more : (byte : ℕ) (bytes : List ℕ) (i : ℕ) → i < length bytes → NotAmong byte (take i bytes) → (get_or bytes i 0 ≡ byte → ⊥) → NotAmong byte (take (i + 1) bytes)
not_among_more byte bytes i lt none ne = rw (take_more bytes i 0 lt) (All-push (λ b. eqb b byte ≡ false) (take i bytes) (get_or bytes i 0) none (ne_eqb (get_or bytes i 0) byte ne))

-- there is always a first part
pub first_part : (byte : ℕ) (bytes : List ℕ) → (p : List ℕ) × (more : List (List ℕ)) × (parts byte bytes ≡ p ∷ more)
first_part byte [] = ([], [], refl)
first_part byte (b ∷ bytes) =
    let r = first_part byte bytes in
    elim (cases_Bool (eqb b byte)) [
      | inl same ↦ ([], parts byte bytes, slice_split-cons_yes (λ x. eqb x byte) b bytes same)
      | inr other ↦ (b ∷ r.0, r.1, slice_split-cons_no (λ x. eqb x byte) b bytes other ∙ ap (onto_first b) r.2)
    ]
