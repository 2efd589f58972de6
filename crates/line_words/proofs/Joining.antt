-- Words that are joined by spaces are parted again, and so are lines.
use Rattle.std.proofs.Common.{◌≡◌, ◌<◌, ◌≤◌, ℕ, Bool, true, false, eqb, leb, List, [], ◌∷◌, ◌++◌, refl, sym, ap, subst, ◌∙◌, inl, inr, arith, append_assoc}
use Rattle.std.specs.Prelude.{not, All}
use Rattle.std.specs.List.{join_with_byte, list_all, AllByRecursion, flat_map, onto_first}
use Rattle.std.specs.Char.{is_ascii_digit}
use Rattle.std.specs.Str.{all_ascii_digits}
use Rattle.std.proofs.lemmas.Bool.{cases_Bool, and_parts, and_from, not-true, not_from_false, ne_eqb, leb-true}
use Rattle.std.proofs.lemmas.List.{append-nil}
use Rattle.std.proofs.lemmas.List.Elements.{All-from_recursion}
use Rattle.std.proofs.lemmas.List.Splits.{slice_split_at, slice_split_none, slice_split-cons_yes, slice_split-cons_no}
use Rattle.line_words.specs.Words.{parts, words, pieces}

-- the byte is not among these
abbrev pub is_free : ℕ → List ℕ → Bool
is_free c bytes = list_all (λ b. not (eqb b c)) bytes

none_there : (c : ℕ) (bytes : List ℕ) → is_free c bytes ≡ true → AllByRecursion (λ b. eqb b c ≡ false) bytes
none_there c [] h = tt
none_there c (b ∷ bytes) h = let p = and_parts (not (eqb b c)) (is_free c bytes) h in (not-true (eqb b c) p.0, none_there c bytes p.1)

pub all_other : (c : ℕ) (bytes : List ℕ) → is_free c bytes ≡ true → All (λ b. eqb b c ≡ false) bytes
all_other c bytes h = All-from_recursion (λ b. eqb b c ≡ false) bytes (none_there c bytes h)

pub is_free-append : (c : ℕ) (xs ys : List ℕ) → is_free c xs ≡ true → is_free c ys ≡ true → is_free c (xs ++ ys) ≡ true
is_free-append c [] ys p q = q
is_free-append c (x ∷ xs) ys p q = let h = and_parts (not (eqb x c)) (is_free c xs) p in and_from _ _ h.0 (is_free-append c xs ys h.1 q)

pub digits_free : (c : ℕ) (ds : List ℕ) → c < 45 → all_ascii_digits ds ≡ true → is_free c ds ≡ true
digits_free c [] lt h = refl
digits_free c (d ∷ ds) lt h =
    let p = and_parts (is_ascii_digit d) (all_ascii_digits ds) h in
    let low : 48 ≤ d = leb-true 48 d (and_parts (leb 48 d) (leb d 57) p.0).0 in
    and_from _ _ (not_from_false _ (ne_eqb d c (λ e. omega arith))) (digits_free c ds lt p.1)

-- no word has the byte
abbrev pub AllFree : ℕ → List (List ℕ) → Type 0
AllFree c [] = Unit {0}
AllFree c (w ∷ ws) = (is_free c w ≡ true) × AllFree c ws

pub join_free : (c : ℕ) (ws : List (List ℕ)) → eqb 32 c ≡ false → AllFree c ws → is_free c (join_with_byte 32 ws) ≡ true
join_free c [] other h = refl
join_free c (w ∷ []) other h = h.0
join_free c (w ∷ v ∷ ws) other h = is_free-append c w (32 ∷ join_with_byte 32 (v ∷ ws)) h.0 (and_from _ _ (not_from_false _ other) (join_free c (v ∷ ws) other h.1))

-- words that were joined are parted again
pub words_joined : (w : List ℕ) (ws : List (List ℕ)) → AllFree 32 (w ∷ ws) → words (join_with_byte 32 (w ∷ ws)) ≡ w ∷ ws
words_joined w [] h = slice_split_none (λ b. eqb b 32) w (all_other 32 w h.0)
words_joined w (v ∷ ws) h =
    slice_split_at (λ b. eqb b 32) w 32 (join_with_byte 32 (v ∷ ws)) (all_other 32 w h.0) refl ∙ ap (λ t. w ∷ t) (words_joined v ws h.1)

-- a line is the first piece of a text that begins with it
pub line_first : (line rest : List ℕ) → is_free 10 line ≡ true → pieces (line ++ 10 ∷ rest) ≡ line ∷ pieces rest
line_first line rest free = slice_split_at (λ b. eqb b 10) line 10 rest (all_other 10 line free) refl

-- all words but the first have a space before them
pub join_with_byte-cons : (w : List ℕ) (ws : List (List ℕ)) → join_with_byte 32 (w ∷ ws) ≡ w ++ flat_map (λ v. 32 ∷ v) ws
join_with_byte-cons w [] = sym (append-nil w)
join_with_byte-cons w (v ∷ ws) = ap (λ (t : List ℕ). w ++ 32 ∷ t) (join_with_byte-cons v ws)

-- words behind others
pub join_append : (w : List ℕ) (ws : List (List ℕ)) (v : List ℕ) (vs : List (List ℕ)) → join_with_byte 32 ((w ∷ ws) ++ v ∷ vs) ≡ join_with_byte 32 (w ∷ ws) ++ 32 ∷ join_with_byte 32 (v ∷ vs)
join_append w [] v vs = refl
join_append w (x ∷ ws) v vs =
    ap (λ t. w ++ 32 ∷ t) (join_append x ws v vs) ∙ sym (append_assoc w (32 ∷ join_with_byte 32 (x ∷ ws)) (32 ∷ join_with_byte 32 (v ∷ vs)))

parts_free_onto : (c b : ℕ) (ps : List (List ℕ)) → eqb b c ≡ false → AllFree c ps → AllFree c (onto_first b ps)
parts_free_onto c b [] other h = (and_from _ _ (not_from_false _ other) refl, tt)
parts_free_onto c b (p ∷ ps) other h = (and_from _ _ (not_from_false _ other) h.0, h.1)

-- no part has the byte between the parts
pub parts_free : (c : ℕ) (bytes : List ℕ) → AllFree c (parts c bytes)
parts_free c [] = (refl, tt)
parts_free c (b ∷ bytes) =
    elim (cases_Bool (eqb b c)) [
      | inl same ↦ subst (AllFree c) (sym (slice_split-cons_yes (λ x. eqb x c) b bytes same)) (refl, parts_free c bytes)
      | inr other ↦ subst (AllFree c) (sym (slice_split-cons_no (λ x. eqb x c) b bytes other)) (parts_free_onto c b (parts c bytes) other (parts_free c bytes))
    ]
