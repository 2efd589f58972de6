-- A number that is read is spelled so, and a number that is spelled is read again.
use Rattle.std.proofs.Common.{◌≡◌, ◌<◌, ◌^◌, ℕ, Bool, cond, ltb, eqb, true, List, length, get_or, Some, None, sym, ap, ◌∙◌, inl, inr, arith}
use Rattle.std.specs.Prelude.{◌&&◌, ◌||◌, not}
use Rattle.std.specs.Fmt.{decimal}
use Rattle.std.specs.Str.{all_ascii_digits}
use Rattle.std.specs.Str.Parse.{digits_value}
use Rattle.std.proofs.lemmas.Bool.{and_parts, and_from, or_cases, or_left, or_right, not-true, not_from_false, ltb-true, lt-ltb, eqb-true, eq-eqb, ne_eqb, cases_lt, both_ways}
use Rattle.std.proofs.lemmas.Option.{cond_some}
use Rattle.std.proofs.lemmas.Str.Parse.{IsNumeralModel, numerals_by_value, tells_all_ascii_digits}
use Rattle.std.proofs.lemmas.Fmt.{decimal-digits_value, digits_decimal, digits_value-decimal, decimal_nonempty, first_decimal, decimal_digit}
use Rattle.line_words.specs.Words.{spelled_number, is_numeral}

-- texts of digits and their values, as the lemmas on numerals take them
pub own : IsNumeralModel (λ ds. all_ascii_digits ds ≡ true) (digits_value 10)
own = numerals_by_value (λ ds. all_ascii_digits ds ≡ true) tells_all_ascii_digits

-- a word that is read as a number is its decimal
pub number_taken : (word : List ℕ) (n : ℕ) → spelled_number word ≡ Some n → word ≡ decimal n
unfolding spelled_number
number_taken word n e =
    let p = cond_some (is_numeral word && ltb (digits_value 10 word) (2 ^ 64)) (digits_value 10 word) n e in
    let a = and_parts (is_numeral word) (ltb (digits_value 10 word) (2 ^ 64)) p.0 in
    let b = and_parts (all_ascii_digits word && ltb 0 (length word)) (eqb (length word) 1 || not (eqb (get_or word 0 0) 48)) a.0 in
    let c = and_parts (all_ascii_digits word) (ltb 0 (length word)) b.0 in
    let alone : get_or word 0 0 ≡ 48 → length word ≡ 1 = λ z. elim (or_cases (eqb (length word) 1) (not (eqb (get_or word 0 0) 48)) b.1) [
      | inl one ↦ eqb-true (length word) 1 one
      | inr other ↦ absurd (both_ways (eqb (get_or word 0 0) 48) (not-true _ other) (eq-eqb _ _ z))
    ] in
    sym (decimal-digits_value own word c.0 (ltb-true 0 (length word) c.1) alone (ltb-true _ _ a.1)) ∙ ap decimal p.1

first_fits : (n : ℕ) → n < 2 ^ 64 → (eqb (length (decimal n)) 1 || not (eqb (get_or (decimal n) 0 0) 48)) ≡ true
first_fits n lt =
    elim (cases_lt 0 n) [
      | inl some ↦ or_right _ _ (not_from_false _ (ne_eqb (get_or (decimal n) 0 0) 48 (λ z. omega (arith, z, first_decimal n some lt))))
      | inr none ↦ or_left _ _ (eq-eqb (length (decimal n)) 1 (ap length (decimal_digit n (omega arith))))
    ]

-- the decimal of a number is read as the number
pub number_again : (n : ℕ) → n < 2 ^ 64 → spelled_number (decimal n) ≡ Some n
unfolding spelled_number
number_again n lt =
    let v : digits_value 10 (decimal n) ≡ n = digits_value-decimal own n lt in
    let small : ltb (digits_value 10 (decimal n)) (2 ^ 64) ≡ true = lt-ltb _ _ (omega (arith, v)) in
    let test : (is_numeral (decimal n) && ltb (digits_value 10 (decimal n)) (2 ^ 64)) ≡ true =
    and_from _ _ (and_from _ _ (and_from _ _ (digits_decimal own n lt) (lt-ltb 0 (length (decimal n)) (decimal_nonempty n lt))) (first_fits n lt)) small in
    ap (λ (b : Bool). cond b (Some (digits_value 10 (decimal n))) None) test ∙ ap (λ (x : ℕ). Some x) v
