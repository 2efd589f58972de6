-- The keys of the values that pass a test, when an entry is put in or taken out.
use Rattle.std.proofs.Common.{◌≡◌, ◌+◌, suc, Bool, true, false, cond, List, [], ◌∷◌, length, Some, None, refl, sym, ap, subst, ◌∙◌, inl, inr, arith, Less, Equal, Greater, Ordering}
use Rattle.std.specs.Prelude.{filter, not, find, slice_get, count_by}
use Rattle.std.specs.List.{AllByRecursion}
use Rattle.std.specs.List.Sorted.{IsStrictlySortedBy}
use Rattle.std.specs.Map.{keys_of, values_of, lookup, remove_entry}
use Rattle.std.specs.Set.{remove_key}
use Rattle.std.specs.BTreeMap.{insert_entry, is_at}
use Rattle.std.specs.BTreeSet.{insert_key}
use Rattle.std.specs.Ordering.{is_eq}
use Rattle.std.specs.Cmp.{IsTotalOrder}
use Rattle.std.proofs.lemmas.Bool.{cases_Bool, false≢true}
use Rattle.std.proofs.lemmas.Option.{same_Some, none-some}
use Rattle.std.proofs.lemmas.Cmp.{tied_itself}
use Rattle.std.proofs.lemmas.List.Sums.{sum_by-cons}
use Rattle.trace_check.specs.Shelves.{keys_passing}

module _ {K : Type 0} where
  at_head : (Q : K → Type 0) (ks : List K) (k : K) → AllByRecursion Q ks → slice_get ks 0 ≡ Some k → Q k
  at_head Q [] k a h = absurd (none-some k h)
  at_head Q (y ∷ ys) k a h = subst Q (same_Some y k h) a.0

  put_first : (R : K → K → Ordering) (k : K) (ks : List K) → AllByRecursion (λ y. R k y ≡ Less) ks → insert_key R ks k ≡ k ∷ ks
  put_first R k [] a = refl
  put_first R k (y ∷ ys) a = rw (a.0) refl

  below_rest : {R : K → K → Ordering} → IsTotalOrder R → (k m : K) (ks : List K) → R k m ≡ Less → AllByRecursion (λ y. R m y ≡ Less) ks → AllByRecursion (λ y. R k y ≡ Less) ks
  below_rest o k m [] lt a = tt
  below_rest o k m (y ∷ ys) lt a = (o.trans k m y lt a.0, below_rest o k m ys lt a.1)

module _ {K X : Type 0} where
  -- what holds of all keys holds of these
  passing_all : (Q : K → Type 0) (p : X → Bool) (es : List (K × X)) → AllByRecursion Q (keys_of es) → AllByRecursion Q (keys_passing p es)
  passing_all Q p [] a = tt
  passing_all Q p (e ∷ es) a =
      elim (cases_Bool (p e.1)) [
        | inl yes_ ↦ rw yes_ (a.0, passing_all Q p es a.1)
        | inr no_ ↦ rw no_ (passing_all Q p es a.1)
      ]

  -- an entry that passes, under a new key, goes to its place among those that pass
  pub put_passing : {R : K → K → Ordering} → IsTotalOrder R → (p : X → Bool) (k : K) (x : X) (es : List (K × X)) → IsStrictlySortedBy R (keys_of es) → AllByRecursion (λ e. is_eq (R k e.0) ≡ false) es → p x ≡ true
      → insert_key R (keys_passing p es) k ≡ keys_passing p (insert_entry R es k x)
  unfolding IsStrictlySortedBy
  put_passing o p k x [] s n t = rw t refl
  put_passing {R} o p k x (e ∷ es) s n t = by (put_passing o p k x es s.1 n.1 t) (R k e.0) refl
    where
      kept : (b : Bool) → p e.1 ≡ b → R k e.0 ≡ Greater → insert_key R (keys_passing p es) k ≡ keys_passing p (insert_entry R es k x) → insert_key R (keys_passing p (e ∷ es)) k ≡ keys_passing p (insert_entry R (e ∷ es) k x)
      kept true yes_ h rest = rw (yes_, h) (rw yes_ (ap (λ ks. e.0 ∷ ks) rest))
      kept false no_ h rest = rw (no_, h) (rw no_ rest)

      by : insert_key R (keys_passing p es) k ≡ keys_passing p (insert_entry R es k x) → (r : Ordering) → R k e.0 ≡ r → insert_key R (keys_passing p (e ∷ es)) k ≡ keys_passing p (insert_entry R (e ∷ es) k x)
      by rest Less h = let all = passing_all (λ y. R k y ≡ Less) p (e ∷ es) (h, below_rest o k e.0 (keys_of es) h s.0) in put_first R k (keys_passing p (e ∷ es)) all ∙ rw h (rw t refl)
      by rest Equal h = absurd (false≢true (sym n.0 ∙ ap is_eq h))
      by rest Greater h = kept (p e.1) refl h rest

  -- one that does not pass changes nothing
  pub put_failing : (R : K → K → Ordering) (p : X → Bool) (k : K) (x : X) (es : List (K × X)) → AllByRecursion (λ e. is_eq (R k e.0) ≡ false) es → p x ≡ false → keys_passing p es ≡ keys_passing p (insert_entry R es k x)
  put_failing R p k x [] n t = rw t refl
  put_failing R p k x (e ∷ es) n t = by (put_failing R p k x es n.1 t) (R k e.0) refl
    where
      kept : (b : Bool) → p e.1 ≡ b → R k e.0 ≡ Greater → keys_passing p es ≡ keys_passing p (insert_entry R es k x) → keys_passing p (e ∷ es) ≡ keys_passing p (insert_entry R (e ∷ es) k x)
      kept true yes_ h rest = rw (yes_, h) (rw yes_ (ap (λ ks. e.0 ∷ ks) rest))
      kept false no_ h rest = rw (no_, h) (rw no_ rest)

      by : keys_passing p es ≡ keys_passing p (insert_entry R es k x) → (r : Ordering) → R k e.0 ≡ r → keys_passing p (e ∷ es) ≡ keys_passing p (insert_entry R (e ∷ es) k x)
      by rest Less h = rw h (rw t refl)
      by rest Equal h = absurd (false≢true (sym n.0 ∙ ap is_eq h))
      by rest Greater h = kept (p e.1) refl h rest

  -- ---- what is taken out

  pub take_passing : (test : K → Bool) (p : X → Bool) (x : X) (es : List (K × X)) → lookup test es ≡ Some x → p x ≡ true → remove_key test (keys_passing p es) ≡ keys_passing p (remove_entry test es)
  take_passing test p x [] h t = absurd (none-some x h)
  take_passing test p x (e ∷ es) h t = by (λ there. take_passing test p x es there t) (test e.0) refl
    where
      kept : (b : Bool) → p e.1 ≡ b → test e.0 ≡ false → remove_key test (keys_passing p es) ≡ keys_passing p (remove_entry test es) → remove_key test (keys_passing p (e ∷ es)) ≡ keys_passing p (remove_entry test (e ∷ es))
      kept true yes_ f rest = rw (yes_, f) (rw yes_ (ap (λ ks. e.0 ∷ ks) rest))
      kept false no_ f rest = rw (no_, f) (rw no_ rest)

      by : (lookup test es ≡ Some x → remove_key test (keys_passing p es) ≡ keys_passing p (remove_entry test es)) → (b : Bool) → test e.0 ≡ b → remove_key test (keys_passing p (e ∷ es)) ≡ keys_passing p (remove_entry test (e ∷ es))
      by rest true hit =
          let here : Some e.1 ≡ Some x = sym (rw hit refl) ∙ h in
          let passes : p e.1 ≡ true = ap p (same_Some e.1 x here) ∙ t in rw (passes, hit) refl
      by rest false miss = let there : lookup test es ≡ Some x = sym (rw miss refl) ∙ h in kept (p e.1) refl miss (rest there)

  pub take_failing : (test : K → Bool) (p : X → Bool) (x : X) (es : List (K × X)) → lookup test es ≡ Some x → p x ≡ false → keys_passing p es ≡ keys_passing p (remove_entry test es)
  take_failing test p x [] h t = absurd (none-some x h)
  take_failing test p x (e ∷ es) h t = by (λ there. take_failing test p x es there t) (test e.0) refl
    where
      kept : (b : Bool) → p e.1 ≡ b → test e.0 ≡ false → keys_passing p es ≡ keys_passing p (remove_entry test es) → keys_passing p (e ∷ es) ≡ keys_passing p (remove_entry test (e ∷ es))
      kept true yes_ f rest = rw (yes_, f) (rw yes_ (ap (λ ks. e.0 ∷ ks) rest))
      kept false no_ f rest = rw (no_, f) (rw no_ rest)

      by : (lookup test es ≡ Some x → keys_passing p es ≡ keys_passing p (remove_entry test es)) → (b : Bool) → test e.0 ≡ b → keys_passing p (e ∷ es) ≡ keys_passing p (remove_entry test (e ∷ es))
      by rest true hit =
          let here : Some e.1 ≡ Some x = sym (rw hit refl) ∙ h in
          let fails : p e.1 ≡ false = ap p (same_Some e.1 x here) ∙ t in rw (fails, hit) refl
      by rest false miss = let there : lookup test es ≡ Some x = sym (rw miss refl) ∙ h in kept (p e.1) refl miss (rest there)

  -- the values of which one that fails is taken out, as far as they pass
  pub values_failing : (test : K → Bool) (p : X → Bool) (x : X) (es : List (K × X)) → lookup test es ≡ Some x → p x ≡ false → filter p (values_of (remove_entry test es)) ≡ filter p (values_of es)
  values_failing test p x [] h t = absurd (none-some x h)
  values_failing test p x (e ∷ es) h t = by (λ there. values_failing test p x es there t) (test e.0) refl
    where
      kept : (b : Bool) → p e.1 ≡ b → test e.0 ≡ false → filter p (values_of (remove_entry test es)) ≡ filter p (values_of es) → filter p (values_of (remove_entry test (e ∷ es))) ≡ filter p (values_of (e ∷ es))
      kept true yes_ f rest = rw (yes_, f) (rw yes_ (ap (λ ks. e.1 ∷ ks) rest))
      kept false no_ f rest = rw (no_, f) (rw no_ rest)

      by : (lookup test es ≡ Some x → filter p (values_of (remove_entry test es)) ≡ filter p (values_of es)) → (b : Bool) → test e.0 ≡ b → filter p (values_of (remove_entry test (e ∷ es))) ≡ filter p (values_of (e ∷ es))
      by rest true hit =
          let here : Some e.1 ≡ Some x = sym (rw hit refl) ∙ h in
          let fails : p e.1 ≡ false = ap p (same_Some e.1 x here) ∙ t in rw (fails, hit) refl
      by rest false miss = let there : lookup test es ≡ Some x = sym (rw miss refl) ∙ h in kept (p e.1) refl miss (rest there)

  -- ---- the first that passes

  pub first_passing : {R : K → K → Ordering} → IsTotalOrder R → (p : X → Bool) (k : K) (es : List (K × X)) → IsStrictlySortedBy R (keys_of es) → slice_get (keys_passing p es) 0 ≡ Some k → lookup (is_at (R k)) es ≡ find p (values_of es)
  unfolding IsStrictlySortedBy
  first_passing o p k [] s h = absurd (none-some k h)
  first_passing {R} o p k (e ∷ es) s h = by (λ there. first_passing o p k es s.1 there) (p e.1) refl
    where
      by : (slice_get (keys_passing p es) 0 ≡ Some k → lookup (is_at (R k)) es ≡ find p (values_of es)) → (b : Bool) → p e.1 ≡ b → lookup (is_at (R k)) (e ∷ es) ≡ find p (values_of (e ∷ es))
      by rest true yes_ =
          let head : Some e.0 ≡ Some k = sym (rw yes_ refl) ∙ h in
          let same : e.0 ≡ k = same_Some e.0 k head in
          let hit : is_eq (R k e.0) ≡ true = ap (λ j. is_eq (R j e.0)) (sym same) ∙ ap is_eq (tied_itself o e.0) in rw (yes_, hit) refl
      by rest false no_ =
          let head : slice_get (keys_passing p es) 0 ≡ Some k = sym (rw no_ refl) ∙ h in
          let above : R e.0 k ≡ Less = at_head (λ y. R e.0 y ≡ Less) (keys_passing p es) k (passing_all (λ y. R e.0 y ≡ Less) p es s.0) head in
          let miss : is_eq (R k e.0) ≡ false = ap is_eq (o.antisymm k e.0) ∙ rw above refl in rw (no_, miss) (rest head)

  pub none_passing : (p : X → Bool) (es : List (K × X)) → slice_get (keys_passing p es) 0 ≡ None → find p (values_of es) ≡ None
  none_passing p [] h = refl
  none_passing p (e ∷ es) h = by (λ there. none_passing p es there) (p e.1) refl
    where
      by : (slice_get (keys_passing p es) 0 ≡ None → find p (values_of es) ≡ None) → (b : Bool) → p e.1 ≡ b → find p (values_of (e ∷ es)) ≡ None
      by rest true yes_ = let head : None ≡ Some e.0 = sym h ∙ rw yes_ refl in absurd (none-some e.0 head)
      by rest false no_ = let head : slice_get (keys_passing p es) 0 ≡ None = sym (rw no_ refl) ∙ h in rw no_ (rest head)

  -- how many pass
  pub length_passing : (p : X → Bool) (es : List (K × X)) → length (keys_passing p es) ≡ count_by p (values_of es)
  length_passing p [] = refl
  length_passing p (e ∷ es) = by (length_passing p es) (p e.1) refl
    where
      by : length (keys_passing p es) ≡ count_by p (values_of es) → (b : Bool) → p e.1 ≡ b → length (keys_passing p (e ∷ es)) ≡ count_by p (values_of (e ∷ es))
      by rest true yes_ =
          let more : count_by p (values_of (e ∷ es)) ≡ 1 + count_by p (values_of es) = sum_by-cons (λ x. cond (p x) 1 0) e.1 (values_of es) ∙ rw yes_ refl in
          let long : length (keys_passing p (e ∷ es)) ≡ suc (length (keys_passing p es)) = rw yes_ refl in omega (arith, rest, more, long)
      by rest false no_ =
          let more : count_by p (values_of (e ∷ es)) ≡ 0 + count_by p (values_of es) = sum_by-cons (λ x. cond (p x) 1 0) e.1 (values_of es) ∙ rw no_ refl in
          let long : length (keys_passing p (e ∷ es)) ≡ length (keys_passing p es) = rw no_ refl in omega (arith, rest, more, long)

module _ {X : Type 0} where
  -- what fails nowhere is left whole
  pub passing_filter : (p : X → Bool) (xs : List X) → find p xs ≡ None → filter (λ x. not (p x)) xs ≡ xs
  passing_filter p [] h = refl
  passing_filter p (x ∷ xs) h = by (λ there. passing_filter p xs there) (p x) refl
    where
      by : (find p xs ≡ None → filter (λ y. not (p y)) xs ≡ xs) → (b : Bool) → p x ≡ b → filter (λ y. not (p y)) (x ∷ xs) ≡ x ∷ xs
      by rest true yes_ = let wrong : None ≡ Some x = sym h ∙ rw yes_ refl in absurd (none-some x wrong)
      by rest false no_ = let there : find p xs ≡ None = sym (rw no_ refl) ∙ h in rw no_ (ap (λ q. x ∷ q) (rest there))
