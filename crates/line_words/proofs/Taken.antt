-- What is taken word by word is written so.
use Rattle.std.proofs.Common.{◌≡◌, ◌<◌, ◌^◌, ℕ, Bool, true, false, cond, ltb, List, [], ◌∷◌, ◌++◌, Option, Some, None, refl, sym, ap, subst, ◌∙◌, inl, inr}
use Rattle.std.specs.Prelude.{codes, IfSome, ◌&&◌}
use Rattle.std.specs.List.{AllByRecursion}
use Rattle.std.specs.Option.{option_map}
use Rattle.std.specs.Str.{bytes_eq}
use Rattle.std.specs.Str.Parse.{digits_value}
use Rattle.std.specs.Fmt.{decimal}
use Rattle.std.proofs.lemmas.Bool.{cases_Bool, ltb-true, and_parts}
use Rattle.std.proofs.lemmas.Option.{same_Some, none-some, cond_some}
use Rattle.std.proofs.lemmas.Slice.Eq.{bytes_eq-Decides}
use Rattle.line_words.specs.Words.{spelled_number, is_numeral}
use Rattle.line_words.specs.Written.{maybe, one_of, IsShort, IsLong, WrittenWord, Fixed, Short, Long, MaybeShort, MaybeLong, FitsWord, spelled, spelled_words}
use Rattle.line_words.specs.Taking as taking
use Rattle.line_words.specs.Taking.{Rest, read, and_then, below, maybe_below, by_word}
use Rattle.line_words.proofs.Spelling.{number_taken}

-- ---- one thing after another

-- something was read, and the rest followed by it
pub parted : {A C : Type 0} (o : Option (A × Rest)) (f : A → Rest → Option C) (y : C) → and_then o f ≡ Some y → (p : A × Rest) × (o ≡ Some p) × (f p.0 p.1 ≡ Some y)
parted None f y e = absurd (none-some y e)
parted (Some p) f y e = (p, refl, e)

pub read_parted : {A : Type 0} (o : Option A) (mid : Rest) (y : A × Rest) → read o mid ≡ Some y → (o ≡ Some y.0) × (mid ≡ y.1)
read_parted None mid y e = absurd (none-some y e)
read_parted (Some a) mid y e = let same : (a, mid) ≡ y = same_Some (a, mid) y e in (ap (λ p. Some p.0) same, ap (λ p. p.1) same)

pub word_parted : (ws : Rest) (y : List ℕ × Rest) → taking.word ws ≡ Some y → ws ≡ y.0 ∷ y.1
word_parted [] y e = absurd (none-some y e)
word_parted (w ∷ rest) y e = let same : (w, rest) ≡ y = same_Some (w, rest) y e in ap (λ p. p.0 ∷ p.1) same

-- one word was read, by what it says
one_taken : {A : Type 0} (by : List ℕ → Option A) (ws : Rest) (y : A × Rest) → and_then (taking.word ws) (λ w more. read (by w) more) ≡ Some y → (w : List ℕ) × (by w ≡ Some y.0) × (ws ≡ w ∷ y.1)
one_taken by ws y e =
    let p = parted (taking.word ws) (λ w more. read (by w) more) y e in
    let q = read_parted (by p.0.0) p.0.1 y p.2 in
    (p.0.0, q.0, word_parted ws p.0 p.1 ∙ ap (λ rest. p.0.0 ∷ rest) q.1)

pub below_taken : (limit n m : ℕ) → below limit n ≡ Some m → (n < limit) × (n ≡ m)
below_taken limit n m e =
    elim (cases_Bool (ltb n limit)) [
      | inl small ↦
          let here : below limit n ≡ Some n = rw small refl in
          (ltb-true n limit small, same_Some n m (sym here ∙ e))
      | inr large ↦
          let here : below limit n ≡ None = rw large refl in absurd (none-some m (sym here ∙ e))
    ]

-- a word that is a number is below 2 to the 64
pub number_small : (w : List ℕ) (n : ℕ) → spelled_number w ≡ Some n → n < 2 ^ 64
unfolding spelled_number
number_small w n e =
    let p = cond_some (is_numeral w && ltb (digits_value 10 w) (2 ^ 64)) (digits_value 10 w) n e in
    let a = and_parts (is_numeral w) (ltb (digits_value 10 w) (2 ^ 64)) p.0 in
    subst (λ m. m < 2 ^ 64) p.1 (ltb-true (digits_value 10 w) (2 ^ 64) a.1)

-- ---- one word or two

-- what one word gives, which is written so, and within its width
abbrev pub Takes : {A : Type 0} → (A → WrittenWord) → (Rest → Option (A × Rest)) → Type 0
Takes {A} word by = (ws : Rest) (y : A × Rest) → by ws ≡ Some y → FitsWord (word y.0) × (ws ≡ spelled (word y.0) ∷ y.1)

fixed_by : (spelling w : List ℕ) (more : Rest) (y : Unit {0} × Rest) → cond (bytes_eq w spelling) (Some (tt, more)) None ≡ Some y → (w ≡ spelling) × (more ≡ y.1)
fixed_by spelling w more y e =
    elim (cases_Bool (bytes_eq w spelling)) [
      | inl same ↦ ((bytes_eq-Decides w spelling).0 same, ap (λ p. p.1) (same_Some (tt, more) y (rw same at e)))
      | inr other ↦ absurd (none-some y (rw other at e))
    ]

pub fixed_taken : (spelling : List ℕ) (ws : Rest) (y : Unit {0} × Rest) → taking.fixed spelling ws ≡ Some y → ws ≡ spelling ∷ y.1
unfolding taking.fixed
fixed_taken spelling ws y e =
    let p = parted (taking.word ws) _ y e in
    let q = fixed_by spelling p.0.0 p.0.1 y p.2 in
    word_parted ws p.0 p.1 ∙ ap (λ w. w ∷ p.0.1) q.0 ∙ ap (λ r. spelling ∷ r) q.1

either_by : (first second w : List ℕ) (more : Rest) (y : Bool × Rest) → cond (bytes_eq w first) (Some (true, more)) (cond (bytes_eq w second) (Some (false, more)) None) ≡ Some y → w ∷ more ≡ one_of first second y.0 ∷ y.1
either_by first second w more y e =
    elim (cases_Bool (bytes_eq w first)) [
      | inl same ↦
          let made = same_Some (true, more) y (rw same at e) in
          ap (λ v. v ∷ more) ((bytes_eq-Decides w first).0 same) ∙ ap (λ p. one_of first second p.0 ∷ p.1) made
      | inr other ↦
          let later : cond (bytes_eq w second) (Some (false, more)) None ≡ Some y = rw other at e in
          elim (cases_Bool (bytes_eq w second)) [
            | inl same ↦
                let made = same_Some (false, more) y (rw same at later) in
                ap (λ v. v ∷ more) ((bytes_eq-Decides w second).0 same) ∙ ap (λ p. one_of first second p.0 ∷ p.1) made
            | inr none ↦ absurd (none-some y (rw none at later))
          ]
    ]

pub either_taken : (first second : List ℕ) → Takes (λ b. Fixed (one_of first second b)) (taking.either first second)
unfolding taking.either
either_taken first second ws y e =
    let p = parted (taking.word ws) _ y e in
    (tt, word_parted ws p.0 p.1 ∙ either_by first second p.0.0 p.0.1 y p.2)

pub long_taken : Takes Long taking.long
unfolding taking.long
long_taken ws y e =
    let p = one_taken spelled_number ws y e in
    (number_small p.0 y.0 p.1, p.2 ∙ ap (λ w. w ∷ y.1) (number_taken p.0 y.0 p.1))

pub short_taken : Takes Short taking.short
unfolding taking.short
short_taken ws y e =
    let p = parted (taking.long ws) _ y e in
    let q = read_parted (below (2 ^ 32) p.0.0) p.0.1 y p.2 in
    let b = below_taken (2 ^ 32) p.0.0 y.0 q.0 in
    (subst (λ n. n < 2 ^ 32) b.1 b.0, (long_taken ws p.0 p.1).1 ∙ ap (λ n. decimal n ∷ p.0.1) b.1 ∙ ap (λ r. decimal y.0 ∷ r) q.1)

pub counted_taken : (spelling : List ℕ) (ws : Rest) (y : ℕ × Rest) → taking.counted spelling ws ≡ Some y → IsLong y.0 × (ws ≡ spelling ∷ decimal y.0 ∷ y.1)
unfolding taking.counted
counted_taken spelling ws y e =
    let p = parted (taking.fixed spelling ws) _ y e in
    let t = long_taken p.0.1 y p.2 in
    (t.0, fixed_taken spelling ws p.0 p.1 ∙ ap (λ r. spelling ∷ r) t.1)

some_taken : (w : List ℕ) (o : Option ℕ) (m : Option ℕ) → spelled_number w ≡ o → option_map Some o ≡ Some m → IfSome m IsLong × (w ≡ maybe m)
some_taken w None m is e = absurd (none-some m e)
some_taken w (Some n) m is e = subst (λ x. IfSome x IsLong × (w ≡ maybe x)) (same_Some (Some n) m e) (number_small w n is, number_taken w n is)

maybe_by : (w : List ℕ) (m : Option ℕ) → cond (bytes_eq w (codes "-")) (Some None) (option_map Some (spelled_number w)) ≡ Some m → IfSome m IsLong × (w ≡ maybe m)
maybe_by w m e =
    elim (cases_Bool (bytes_eq w (codes "-"))) [
      | inl same ↦ subst (λ x. IfSome x IsLong × (w ≡ maybe x)) (same_Some None m (rw same at e)) (tt, (bytes_eq-Decides w (codes "-")).0 same)
      | inr other ↦ some_taken w (spelled_number w) m refl (rw other at e)
    ]

pub maybe_long_taken : Takes MaybeLong taking.maybe_long
unfolding taking.maybe_long
maybe_long_taken ws y e =
    let p = one_taken _ ws y e in
    let m = maybe_by p.0 y.0 p.1 in (m.0, p.2 ∙ ap (λ w. w ∷ y.1) m.1)

maybe_below_taken : (o m : Option ℕ) → maybe_below o ≡ Some m → IfSome m IsShort × (o ≡ m)
maybe_below_taken None m e = subst (λ x. IfSome x IsShort × (None ≡ x)) (same_Some None m e) (tt, refl)
maybe_below_taken (Some n) m e = some_below n m (below (2 ^ 32) n) refl e where
  some_below : (n : ℕ) (m b : Option ℕ) → below (2 ^ 32) n ≡ b → option_map Some b ≡ Some m → IfSome m IsShort × (Some n ≡ m)
  some_below n m None is e = absurd (none-some m e)
  some_below n m (Some k) is e =
      let t = below_taken (2 ^ 32) n k is in
      subst (λ x. IfSome x IsShort × (Some n ≡ x)) (same_Some (Some k) m e) (subst IsShort t.1 t.0, ap Some t.1)

pub maybe_short_taken : Takes MaybeShort taking.maybe_short
unfolding taking.maybe_short
maybe_short_taken ws y e =
    let p = parted (taking.maybe_long ws) _ y e in
    let q = read_parted (maybe_below p.0.0) p.0.1 y p.2 in
    let b = maybe_below_taken p.0.0 y.0 q.0 in
    (b.0, (maybe_long_taken ws p.0 p.1).1 ∙ ap (λ o. maybe o ∷ p.0.1) b.1 ∙ ap (λ r. maybe y.0 ∷ r) q.1)

-- a word was read, and what is made of it and of the rest was made too
pub word_then : {A C : Type 0} (word : A → WrittenWord) (by : Rest → Option (A × Rest)) → Takes word by → (P : Type 0) (ws : Rest) (f : A → Rest → Option C) (y : C) → and_then (by ws) f ≡ Some y
    → ((a : A) (rest : Rest) → FitsWord (word a) → ws ≡ spelled (word a) ∷ rest → f a rest ≡ Some y → P) → P
word_then word by taken P ws f y e go =
    let p = parted (by ws) f y e in
    let t = taken ws p.0 p.1 in go p.0.0 p.0.1 t.0 t.1 p.2

-- ---- what stands behind a word

-- words that were read are written so, and within their widths
abbrev pub Spells : {A : Type 0} → (A → List WrittenWord) → Rest → A × Rest → Type 0
Spells words ws y = AllByRecursion FitsWord (words y.0) × (ws ≡ spelled_words (words y.0) ++ y.1)

-- what is read behind the word of this row is written so, word and all
abbrev pub RowTakes : {A : Type 0} → (A → List WrittenWord) → List ℕ × (Rest → Option (A × Rest)) → Type 0
RowTakes {A} words row = (rest : Rest) (y : A × Rest) → row.1 rest ≡ Some y → Spells words (row.0 ∷ rest) y

-- what holds of each row holds of what the table gives
pub rows_hold : {C : Type 0} (P : List ℕ → Rest → C → Type 0) (rows : List (List ℕ × (Rest → Option C))) → AllByRecursion (λ row. (rest : Rest) (y : C) → row.1 rest ≡ Some y → P row.0 rest y) rows
    → (w : List ℕ) (rest : Rest) (y : C) → by_word rows w rest ≡ Some y → P w rest y
rows_hold P [] all w rest y e = absurd (none-some y e)
rows_hold P (row ∷ rows) all w rest y e =
    elim (cases_Bool (bytes_eq w row.0)) [
      | inl same ↦ subst (λ v. P v rest y) (sym ((bytes_eq-Decides w row.0).0 same)) (all.0 rest y (rw same at e))
      | inr other ↦ rows_hold P rows all.1 w rest y (rw other at e)
    ]

pub rows_taken : {A : Type 0} (words : A → List WrittenWord) (rows : List (List ℕ × (Rest → Option (A × Rest)))) → AllByRecursion (RowTakes words) rows
    → (w : List ℕ) (rest : Rest) (y : A × Rest) → by_word rows w rest ≡ Some y → Spells words (w ∷ rest) y
rows_taken words = rows_hold (λ w rest y. Spells words (w ∷ rest) y)
