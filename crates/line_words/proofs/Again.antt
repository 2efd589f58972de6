-- What is written word by word is taken again.
use Rattle.std.proofs.Common.{◌≡◌, ◌^◌, ℕ, Bool, true, false, List, ◌∷◌, Option, Some, None, refl, sym, ap, ◌∙◌, inl, inr}
use Rattle.std.specs.Prelude.{codes, IfSome}
use Rattle.std.specs.Option.{option_map}
use Rattle.std.specs.Str.{bytes_eq}
use Rattle.std.specs.Fmt.{decimal}
use Rattle.std.proofs.lemmas.Bool.{cases_Bool, lt-ltb}
use Rattle.std.proofs.lemmas.Option.{none-some}
use Rattle.std.proofs.lemmas.Slice.Eq.{bytes_eq-Decides}
use Rattle.line_words.specs.Words.{spelled_number}
use Rattle.line_words.specs.Written.{maybe, one_of, IsShort, IsLong}
use Rattle.line_words.specs.Taking as taking
use Rattle.line_words.specs.Taking.{Rest, read, and_then, below, maybe_below}
use Rattle.line_words.proofs.Spelling.{number_again}
use Rattle.line_words.proofs.Wording.{long_short}

-- one thing is read, and what follows it as the rest is
pub then_again : {A C : Type 0} (o : Option (A × Rest)) (a : A) (rest : Rest) (f : A → Rest → Option C) (y : C) → o ≡ Some (a, rest) → f a rest ≡ Some y → and_then o f ≡ Some y
then_again o a rest f y e later = ap (λ x. and_then x f) e ∙ later

-- a word that is compared with itself
abbrev pub Fixed : List ℕ → Type 0
Fixed w = bytes_eq w w ≡ true

pub fixed_again : (w : List ℕ) (rest : Rest) → Fixed w → taking.fixed w (w ∷ rest) ≡ Some (tt, rest)
unfolding taking.fixed
fixed_again w rest same = rw same refl

pub either_again : (first second : List ℕ) (b : Bool) (rest : Rest) → Fixed first → Fixed second → bytes_eq second first ≡ false → taking.either first second (one_of first second b ∷ rest) ≡ Some (b, rest)
unfolding taking.either
either_again first second true rest f s apart = rw f refl
either_again first second false rest f s apart = rw (apart, s) refl

pub long_again : (n : ℕ) (rest : Rest) → IsLong n → taking.long (decimal n ∷ rest) ≡ Some (n, rest)
unfolding taking.long
long_again n rest fit = ap (λ o. read o rest) (number_again n fit)

pub short_again : (n : ℕ) (rest : Rest) → IsShort n → taking.short (decimal n ∷ rest) ≡ Some (n, rest)
unfolding taking.short
short_again n rest fit =
    ap (λ o. and_then o (λ m more. read (below (2 ^ 32) m) more)) (long_again n rest (long_short n fit)) ∙ (rw (lt-ltb n (2 ^ 32) fit) refl)

pub counted_again : (w : List ℕ) (n : ℕ) (rest : Rest) → Fixed w → IsLong n → taking.counted w (w ∷ decimal n ∷ rest) ≡ Some (n, rest)
unfolding taking.counted
counted_again w n rest same fit = then_again _ _ _ _ (n, rest) (fixed_again w (decimal n ∷ rest) same) (long_again n rest fit)

-- a number isn't written as the mark is
no_mark : (n : ℕ) → IsLong n → bytes_eq (decimal n) (codes "-") ≡ false
unfolding spelled_number
no_mark n fit =
    elim (cases_Bool (bytes_eq (decimal n) (codes "-"))) [
      | inl same ↦
          let none : spelled_number (decimal n) ≡ None = ap spelled_number ((bytes_eq-Decides (decimal n) (codes "-")).0 same) in
          absurd (none-some n (sym none ∙ number_again n fit))
      | inr other ↦ other
    ]

pub maybe_long_again : (o : Option ℕ) (rest : Rest) → IfSome o IsLong → taking.maybe_long (maybe o ∷ rest) ≡ Some (o, rest)
unfolding taking.maybe_long
maybe_long_again None rest fit = refl
maybe_long_again (Some n) rest fit = rw (no_mark n fit) (ap (λ o. read (option_map Some o) rest) (number_again n fit))

maybe_long_short : (o : Option ℕ) → IfSome o IsShort → IfSome o IsLong
maybe_long_short None fit = tt
maybe_long_short (Some n) fit = long_short n fit

below_again : (o : Option ℕ) → IfSome o IsShort → maybe_below o ≡ Some o
below_again None fit = refl
below_again (Some n) fit = rw (lt-ltb n (2 ^ 32) fit) refl

pub maybe_short_again : (o : Option ℕ) (rest : Rest) → IfSome o IsShort → taking.maybe_short (maybe o ∷ rest) ≡ Some (o, rest)
unfolding taking.maybe_short
maybe_short_again o rest fit =
    then_again _ _ _ _ (o, rest) (maybe_long_again o rest (maybe_long_short o fit)) (ap (λ x. read x rest) (below_again o fit))
