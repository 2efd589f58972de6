-- Lines of several kinds, each with a form: what is read is spelled so, and what is spelled is read so.
use Rattle.std.proofs.Common.{◌≡◌, ◌<◌, ◌≤◌, ◌+◌, ◌^◌, ℕ, Bool, true, false, cond, List, [], ◌∷◌, length, get_or, drop, Option, Some, None, refl, sym, ap, ◌∙◌, inl, inr, ◌⊎◌, arith}
use Rattle.std.specs.Prelude.{◌||◌, not, is_none}
use Rattle.std.specs.Fmt.{decimal}
use Rattle.std.specs.Str.{bytes_eq}
use Rattle.std.specs.Option.{option_map, option_or}
use Rattle.std.proofs.lemmas.Bool.{or_cases, not-true, cases_Bool}
use Rattle.std.proofs.lemmas.List.{drop_more, drop_all}
use Rattle.std.proofs.lemmas.Option.{same_Some, none-some}
use Rattle.std.proofs.lemmas.Slice.Eq.{bytes_eq-Decides}
use Rattle.loop_model.proofs.Options.{none_is}
use Rattle.dash_script.specs.declared.form.Keyword.{Keyword}
use Rattle.dash_script.specs.declared.form.Slot.{Slot}
use Rattle.dash_script.specs.declared.form.Slot.TheVariants.{Word, Number}
use Rattle.dash_script.specs.Form.{spelling, filled, numbers_of, with_number, said_among}
use Rattle.line_words.specs.Words.{spelled_number}
use Rattle.line_words.proofs.Spelling.{number_taken, number_again}
use Rattle.dash_script.specs.Writing.{hole_count}
use Rattle.dash_script.specs.Laws.{AllSmall}

-- ---- one form

number_first : (slots : List Slot) (w : List ℕ) (more : List (List ℕ)) (o : Option ℕ) (p : Option (List ℕ)) (ns : List ℕ) → ((n : ℕ) → o ≡ Some n → w ≡ decimal n) → ((ms : List ℕ) → p ≡ Some ms → filled slots ms ≡ more)
    → with_number o p ≡ Some ns → (n : ℕ) × (ms : List ℕ) × (ns ≡ n ∷ ms) × (w ≡ decimal n) × (filled slots ms ≡ more)
number_first slots w more None p ns word rest e = absurd (none-some ns e)
number_first slots w more (Some n) None ns word rest e = absurd (none-some ns e)
number_first slots w more (Some n) (Some ms) ns word rest e = (n, ms, sym (same_Some (n ∷ ms) ns e), word n refl, rest ms refl)

pub numbers_taken : (slots : List Slot) (ws : List (List ℕ)) (ns : List ℕ) → numbers_of slots ws ≡ Some ns → filled slots ns ≡ ws
unfolding numbers_of filled
numbers_taken [] [] ns e = refl
numbers_taken [] (w ∷ ws) ns e = absurd cc
numbers_taken (Word k ∷ slots) [] ns e = absurd cc
numbers_taken (Number r ∷ slots) [] ns e = absurd cc
numbers_taken (Word k ∷ slots) (w ∷ ws) ns e =
    elim (cases_Bool (bytes_eq w (spelling k))) [
      | inl same ↦ ap (λ t. spelling k ∷ t) (numbers_taken slots ws ns (rw same at e)) ∙ ap (λ x. x ∷ ws) (sym ((bytes_eq-Decides w (spelling k)).0 same))
      | inr other ↦ absurd (none-some ns (rw other at e))
    ]
numbers_taken (Number r ∷ slots) (w ∷ ws) ns e =
    let p = number_first slots w ws (spelled_number w) (numbers_of slots ws) ns (λ n h. number_taken w n h) (λ ms h. numbers_taken slots ws ms h) e in
    ap (filled (Number r ∷ slots)) p.2 ∙ ap (λ x. x ∷ filled slots p.1) (sym p.3) ∙ ap (λ t. w ∷ t) p.4

same_bytes : (w : List ℕ) → bytes_eq w w ≡ true
same_bytes w = (bytes_eq-Decides w w).1 refl

-- the numbers of a filled form are those that it was filled with
pub numbers_again : (slots : List Slot) (ns : List ℕ) → hole_count slots ≡ length ns → AllSmall ns → numbers_of slots (filled slots ns) ≡ Some ns
unfolding numbers_of filled
numbers_again [] [] whole small = refl
numbers_again [] (n ∷ ns) whole small = absurd (omega arith)
numbers_again (Word w ∷ slots) ns whole small = rw (same_bytes (spelling w)) (numbers_again slots ns whole small)
numbers_again (Number r ∷ slots) [] whole small = absurd (omega arith)
numbers_again (Number r ∷ slots) (n ∷ ns) whole small = rw (number_again n small.0, numbers_again slots ns (omega arith) small.1) refl

-- no word fits both
unfoldable pub clash_slot : Slot → Slot → Bool
clash_slot (Word a) (Word b) = not (bytes_eq (spelling b) (spelling a))
clash_slot (Word a) (Number r) = is_none (spelled_number (spelling a))
clash_slot (Number r) (Word b) = is_none (spelled_number (spelling b))
clash_slot (Number r) (Number q) = false

-- no words have both forms
unfoldable pub clash : List Slot → List Slot → Bool
clash [] [] = false
clash [] (b ∷ bs) = true
clash (a ∷ as') [] = true
clash (a ∷ as') (b ∷ bs) = clash_slot a b || clash as' bs

none_either : {A : Type 0} (b : Bool) (x : Option A) → x ≡ None → cond b x None ≡ None
none_either true x e = e
none_either false x e = refl

none_number : (o : Option ℕ) (p : Option (List ℕ)) → p ≡ None → with_number o p ≡ None
none_number None p e = refl
none_number (Some n) p e = ap (with_number (Some n)) e

not_decimal : (a : Keyword) (n : ℕ) → n < 2 ^ 64 → spelled_number (spelling a) ≡ None → bytes_eq (decimal n) (spelling a) ≡ false
not_decimal a n lt none =
    elim (cases_Bool (bytes_eq (decimal n) (spelling a))) [
      | inl same ↦ absurd (none-some n (sym none ∙ ap spelled_number (sym ((bytes_eq-Decides (decimal n) (spelling a)).0 same)) ∙ number_again n lt))
      | inr other ↦ other
    ]

pub clash_none : (f g : List Slot) (ns : List ℕ) → clash f g ≡ true → hole_count g ≡ length ns → AllSmall ns → numbers_of f (filled g ns) ≡ None
unfolding clash clash_slot numbers_of filled
clash_none [] [] ns h whole small = absurd cc
clash_none [] (Word b ∷ g) ns h whole small = refl
clash_none [] (Number r ∷ g) [] h whole small = absurd (omega arith)
clash_none [] (Number r ∷ g) (n ∷ ns) h whole small = refl
clash_none (Word a ∷ f) [] ns h whole small = refl
clash_none (Number r ∷ f) [] ns h whole small = refl
clash_none (Word a ∷ f) (Word b ∷ g) ns h whole small =
    elim (or_cases (not (bytes_eq (spelling b) (spelling a))) (clash f g) h) [
      | inl differ ↦ rw (not-true (bytes_eq (spelling b) (spelling a)) differ) refl
      | inr later ↦ none_either (bytes_eq (spelling b) (spelling a)) (numbers_of f (filled g ns)) (clash_none f g ns later whole small)
    ]
clash_none (Word a ∷ f) (Number r ∷ g) [] h whole small = absurd (omega arith)
clash_none (Word a ∷ f) (Number r ∷ g) (n ∷ ns) h whole small =
    elim (or_cases (is_none (spelled_number (spelling a))) (clash f g) h) [
      | inl none ↦ rw (not_decimal a n small.0 (none_is (spelled_number (spelling a)) none)) refl
      | inr later ↦ none_either (bytes_eq (decimal n) (spelling a)) (numbers_of f (filled g ns)) (clash_none f g ns later (omega arith) small.1)
    ]
clash_none (Number r ∷ f) (Word b ∷ g) ns h whole small =
    elim (or_cases (is_none (spelled_number (spelling b))) (clash f g) h) [
      | inl none ↦ rw (none_is (spelled_number (spelling b)) none) refl
      | inr later ↦ none_number (spelled_number (spelling b)) (numbers_of f (filled g ns)) (clash_none f g ns later whole small)
    ]
clash_none (Number r ∷ f) (Number q ∷ g) [] h whole small = absurd (omega arith)
clash_none (Number r ∷ f) (Number q ∷ g) (n ∷ ns) h whole small =
    elim (or_cases false (clash f g) h) [
      | inl never ↦ absurd cc
      | inr later ↦ none_number (spelled_number (decimal n)) (numbers_of f (filled g ns)) (clash_none f g ns later (omega arith) small.1)
    ]

-- ---- several kinds

-- the kind is the first of the list whose form words of its own form have
unfoldable pub FirstFits : {K : Type 0} → (K → List Slot) → List K → K → Type 0
FirstFits form [] k = ⊥
FirstFits form (j ∷ js) k = (j ≡ k) ⊎ ((clash (form j) (form k) ≡ true) × FirstFits form js k)

module _ {K S : Type 0} (form : K → List Slot) (say : K → List ℕ → S) where
  pub has_form : (ks : List K) (ws : List (List ℕ)) (i : ℕ) (d : K) (ns : List ℕ) (total : Option S) → i < length ks → Some ns ≡ numbers_of (form (get_or ks i d)) ws
      → said_among form say (drop i ks) ws ≡ total → Some (say (get_or ks i d) ns) ≡ total
  unfolding said_among
  has_form ks ws i d ns total lt e h =
      let one : said_among form say (drop i ks) ws ≡ Some (say (get_or ks i d) ns) = rw (drop_more ks i d lt, ← e) refl in sym one ∙ h

  pub no_form : (ks : List K) (ws : List (List ℕ)) (i : ℕ) (d : K) (total : Option S) → i < length ks → None ≡ numbers_of (form (get_or ks i d)) ws
      → said_among form say (drop i ks) ws ≡ total → said_among form say (drop (i + 1) ks) ws ≡ total
  unfolding said_among
  no_form ks ws i d total lt e h =
      let one : said_among form say (drop i ks) ws ≡ said_among form say (drop (i + 1) ks) ws = rw (drop_more ks i d lt, ← e) refl in sym one ∙ h

  pub no_kind : (ks : List K) (ws : List (List ℕ)) (i : ℕ) (total : Option S) → length ks ≤ i → said_among form say (drop i ks) ws ≡ total → None ≡ total
  unfolding said_among
  no_kind ks ws i total le h = let one : said_among form say (drop i ks) ws ≡ None = rw (drop_all i ks le) refl in sym one ∙ h

  -- these words say this: they have the form of a kind, with these numbers
  abbrev pub IsSaid : List (List ℕ) → S → Type 0
  IsSaid ws s = (k : K) × (ns : List ℕ) × (say k ns ≡ s) × (numbers_of (form k) ws ≡ Some ns)

  first_said : (k : K) (others : Option S) (ws : List (List ℕ)) (s : S) (o : Option (List ℕ)) → numbers_of (form k) ws ≡ o → (others ≡ Some s → IsSaid ws s)
      → option_or (option_map (say k) o) others ≡ Some s → IsSaid ws s
  first_said k others ws s None is there e = there e
  first_said k others ws s (Some ns) is there e = (k, ns, same_Some (say k ns) s e, is)

  pub among_said : (ks : List K) (ws : List (List ℕ)) (s : S) → said_among form say ks ws ≡ Some s → IsSaid ws s
  unfolding said_among
  among_said [] ws s e = absurd (none-some s e)
  among_said (k ∷ ks) ws s e = first_said k (said_among form say ks ws) ws s (numbers_of (form k) ws) refl (λ h. among_said ks ws s h) e

  among_again : (ks : List K) (k : K) (ns : List ℕ) (ws : List (List ℕ)) → FirstFits form ks k → numbers_of (form k) ws ≡ Some ns → ((j : K) → clash (form j) (form k) ≡ true → numbers_of (form j) ws ≡ None)
      → said_among form say ks ws ≡ Some (say k ns)
  unfolding FirstFits said_among
  among_again [] k ns ws first fits others = absurd first
  among_again (j ∷ js) k ns ws (inl same) fits others =
      let has : numbers_of (form j) ws ≡ Some ns = ap (λ x. numbers_of (form x) ws) same ∙ fits in
      let one : said_among form say (j ∷ js) ws ≡ Some (say j ns) = rw has refl in
      one ∙ ap (λ x. Some (say x ns)) same
  among_again (j ∷ js) k ns ws (inr later) fits others =
      let one : said_among form say (j ∷ js) ws ≡ said_among form say js ws = rw (others j later.0) refl in
      one ∙ among_again js k ns ws later.1 fits others

  -- the words of a kind, with a small number for each hole, are read as such a line
  pub words_said : (ks : List K) (k : K) (ns : List ℕ) → FirstFits form ks k → hole_count (form k) ≡ length ns → AllSmall ns → said_among form say ks (filled (form k) ns) ≡ Some (say k ns)
  words_said ks k ns first whole small =
      among_again ks k ns (filled (form k) ns) first (numbers_again (form k) ns whole small) (λ j h. clash_none (form j) (form k) ns h whole small)
