-- Numbers read digit by digit.
use Rattle.std.proofs.Common.{◌≡◌, ◌<◌, ◌≤◌, ◌+◌, ◌-◌, ◌*◌, ◌^◌, ℕ, Bool, cond, ltb, true, false, List, [], ◌∷◌, length, get_or, drop, Option, Some, None, refl, sym, ap, ◌∙◌, inl, inr, arith}
use Rattle.std.specs.Prelude.{◌&&◌, ◌||◌, not, eqb}
use Rattle.std.specs.Char.{is_ascii_digit, digit_value}
use Rattle.std.specs.Str.{all_ascii_digits}
use Rattle.std.specs.Str.Parse.{digits_value_after}
use Rattle.std.proofs.lemmas.Bool.{cases_Bool, cases_lt, lt-ltb, le-ltb, or_from, or_left, or_right, not_from_true, not_from_false, and_right, and_left, eq-eqb, ne_eqb}
use Rattle.std.proofs.lemmas.Bool.Decides.{nat_tests}
use Rattle.std.proofs.lemmas.List.{drop_more, drop_all}
use Rattle.line_words.specs.Words.{spelled_number}
use Rattle.line_words.specs.Rests.{digits_from}

-- ---- one digit more

pub no_digit : (n i : ℕ) (word : List ℕ) (total : Option ℕ) → i < length word → is_ascii_digit (get_or word i 0) ≡ false → digits_from n (drop i word) ≡ total → None ≡ total
unfolding digits_from
no_digit n i word total lt e h = let one : digits_from n (drop i word) ≡ None = rw (drop_more word i 0 lt, e) refl in sym one ∙ h

pub too_large : (n i : ℕ) (word : List ℕ) (total : Option ℕ) → i < length word → 2 ^ 64 ≤ n * 10 + (get_or word i 0 - 48) → digits_from n (drop i word) ≡ total → None ≡ total
unfolding digits_from
too_large n i word total lt le h =
    let f : (is_ascii_digit (get_or word i 0) && ltb (n * 10 + (get_or word i 0 - 48)) (2 ^ 64)) ≡ false = and_right _ _ (le-ltb _ _ le) in
    let one : digits_from n (drop i word) ≡ None = rw (drop_more word i 0 lt, f) refl in sym one ∙ h

pub one_more : (n i m : ℕ) (word : List ℕ) (total : Option ℕ) → i < length word → is_ascii_digit (get_or word i 0) ≡ true → m ≡ n * 10 + (get_or word i 0 - 48) → m < 2 ^ 64
    → digits_from n (drop i word) ≡ total → digits_from m (drop (i + 1) word) ≡ total
unfolding digits_from
one_more n i m word total lt d e small h =
    let small' : n * 10 + (get_or word i 0 - 48) < 2 ^ 64 = omega arith in
    let l : ltb (n * 10 + (get_or word i 0 - 48)) (2 ^ 64) ≡ true = lt-ltb _ _ small' in
    let one : digits_from n (drop i word) ≡ digits_from (n * 10 + (get_or word i 0 - 48)) (drop (i + 1) word) = rw (drop_more word i 0 lt, d, l) refl in
    ap (λ (k : ℕ). digits_from k (drop (i + 1) word)) e ∙ sym one ∙ h

pub at_end : (n i : ℕ) (word : List ℕ) (total : Option ℕ) → length word ≤ i → digits_from n (drop i word) ≡ total → Some n ≡ total
unfolding digits_from
at_end n i word total le h = let one : digits_from n (drop i word) ≡ Some n = rw (drop_all i word le) refl in sym one ∙ h

-- ---- all digits

digit_is : (c : ℕ) → is_ascii_digit c ≡ true → digit_value c ≡ c - 48
digit_is c h = grind (arith, nat_tests)

after_ge : (n : ℕ) (ws : List ℕ) → n ≤ digits_value_after 10 n ws
after_ge n [] = omega arith
after_ge n (c ∷ cs) = omega (arith, after_ge (n * 10 + digit_value c) cs)

abbrev valued : ℕ → List ℕ → Option ℕ
valued n ws = cond (all_ascii_digits ws && ltb (digits_value_after 10 n ws) (2 ^ 64)) (Some (digits_value_after 10 n ws)) None

pub digits_from_is : (n : ℕ) (ws : List ℕ) → n < 2 ^ 64 → digits_from n ws ≡ valued n ws
unfolding digits_from
digits_from_is n [] lt = rw (lt-ltb n (2 ^ 64) lt) refl
digits_from_is n (c ∷ cs) lt =
    elim (cases_Bool (is_ascii_digit c)) [
      | inr other ↦ rw other refl
      | inl digit ↦ elim (cases_lt (n * 10 + (c - 48)) (2 ^ 64)) [
        | inl small ↦ rw (digit, lt-ltb _ _ small, digit_is c digit) (digits_from_is (n * 10 + (c - 48)) cs small)
        | inr large ↦
            let past : 2 ^ 64 ≤ digits_value_after 10 (n * 10 + (c - 48)) cs = omega (arith, after_ge (n * 10 + (c - 48)) cs) in
            rw (digit, le-ltb _ _ large, digit_is c digit, le-ltb _ _ past, and_right (all_ascii_digits cs) false refl) refl
      ]
    ]

-- ---- the first digit

same_and : (a : Bool) → ((a && true) && true) ≡ a
same_and true = refl
same_and false = refl

pub number_empty : (word : List ℕ) → length word ≡ 0 → None ≡ spelled_number word
unfolding spelled_number
number_empty word e =
    let f : ((all_ascii_digits word && ltb 0 (length word)) && (eqb (length word) 1 || not (eqb (get_or word 0 0) 48))) ≡ false = and_left _ _ (and_right _ _ (le-ltb 0 (length word) (omega arith))) in
    sym (rw f refl)

pub number_zero : (word : List ℕ) → 1 < length word → get_or word 0 0 ≡ 48 → None ≡ spelled_number word
unfolding spelled_number
number_zero word long e =
    let f : ((all_ascii_digits word && ltb 0 (length word)) && (eqb (length word) 1 || not (eqb (get_or word 0 0) 48))) ≡ false =
    and_right _ _ (or_from _ _ (ne_eqb (length word) 1 (λ one. omega arith)) (not_from_true _ (eq-eqb (get_or word 0 0) 48 e))) in
    sym (rw f refl)

number_counted : (word : List ℕ) → 0 < length word → (eqb (length word) 1 || not (eqb (get_or word 0 0) 48)) ≡ true → digits_from 0 word ≡ spelled_number word
unfolding spelled_number
number_counted word some f =
    let lt : 0 < 2 ^ 64 = omega arith in
    digits_from_is 0 word lt ∙ sym (rw (lt-ltb 0 (length word) some, f, same_and (all_ascii_digits word)) refl)

pub number_short : (word : List ℕ) → length word ≡ 1 → digits_from 0 word ≡ spelled_number word
number_short word one = number_counted word (omega arith) (or_left _ _ (eq-eqb (length word) 1 one))

pub number_other : (word : List ℕ) → 0 < length word → (get_or word 0 0 ≡ 48 → ⊥) → digits_from 0 word ≡ spelled_number word
number_other word some ne = number_counted word some (or_right _ _ (not_from_false _ (ne_eqb (get_or word 0 0) 48 ne)))
