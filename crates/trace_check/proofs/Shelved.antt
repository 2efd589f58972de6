-- A map whose values are seen as lists, after one of them was written.
use Rattle.std.proofs.Common.{◌≡◌, ℕ, Bool, true, false, cond, List, [], ◌∷◌, Some, None, refl, sym, ap, subst, ◌∙◌, Less, Equal, Greater, Ordering}
use Rattle.std.specs.Prelude.{IfSome, IsSome, if◌then◌else◌}
use Rattle.std.specs.Option.{option_map}
use Rattle.std.specs.Map.{lookup}
use Rattle.std.specs.BTreeMap as tree
use Rattle.std.specs.BTreeMap.{BTreeMap, is_at, WritesThrough, UpdatesBy}
use Rattle.std.specs.Ordering.{is_eq, nat_cmp, ordering_then}
use Rattle.std.specs.Cmp.{IsTotalOrder, nat_cmp_total}
use Rattle.std.proofs.lemmas.Bool.{false≢true}
use Rattle.std.proofs.lemmas.Cmp.{then_total, on_total}

equal : (r : Ordering) → is_eq r ≡ true → r ≡ Equal
equal Less e = absurd (false≢true e)
equal Equal e = refl
equal Greater e = absurd (false≢true e)

lookup_same : {K X : Type 0} (f g : K → Bool) → ((k : K) → f k ≡ g k) → (es : List (K × X)) → lookup f es ≡ lookup g es
lookup_same f g same [] = refl
lookup_same f g same (e ∷ es) = rw (same e.0) (ap (λ o. cond (g e.0) (Some e.1) o) (lookup_same f g same es))

module _ {K X : Type 0} {R : K → K → Ordering} where
  -- equal keys find the same
  found_same : IsTotalOrder R → (m : BTreeMap K X) (k q : K) → is_eq (R k q) ≡ true → tree.get R m q ≡ tree.get_by (R k) m
  found_same o m k q e = lookup_same (is_at (R q)) (is_at (R k)) (λ z. ap is_eq (sym (o.congr k q z (equal (R k q) e)))) m.entries

module _ {K X Y : Type 0} {R : K → K → Ordering} where
  -- what was written at a key, seen as a list
  pub written_at : IsTotalOrder R → (m n : BTreeMap K X) (k q : K) (s w : X) (view : X → Y) (f : Y → Y) → WritesThrough R (R k) m w n → Some s ≡ tree.get_by (R k) m → view w ≡ f (view s)
      → option_map view (tree.get R n q) ≡ (if is_eq (R k q) then option_map f (option_map view (tree.get R m q)) else option_map view (tree.get R m q))
  written_at o m n k q s w view f through was is = by (is_eq (R k q)) refl
    where
      by : (b : Bool) → is_eq (R k q) ≡ b → option_map view (tree.get R n q) ≡ (if is_eq (R k q) then option_map f (option_map view (tree.get R m q)) else option_map view (tree.get R m q))
      by true e =
          let updated = through.3 (subst IsSome was refl) in
          let now : tree.get R n q ≡ Some w = updated.0 q ∙ rw e refl in
          let before : tree.get R m q ≡ Some s = found_same o m k q e ∙ sym was in rw (e, now, before) (ap (λ y. Some y) is)
      by false e =
          let updated = through.3 (subst IsSome was refl) in
          let now : tree.get R n q ≡ tree.get R m q = updated.0 q ∙ rw e refl in rw (e, now) refl

  pub not_there : IsTotalOrder R → (m : BTreeMap K X) (k q : K) (view : X → Y) (f : Y → Y) → None ≡ tree.get_by (R k) m
      → option_map view (tree.get R m q) ≡ (if is_eq (R k q) then option_map f (option_map view (tree.get R m q)) else option_map view (tree.get R m q))
  not_there o m k q view f was = by (is_eq (R k q)) refl
    where
      by : (b : Bool) → is_eq (R k q) ≡ b → option_map view (tree.get R m q) ≡ (if is_eq (R k q) then option_map f (option_map view (tree.get R m q)) else option_map view (tree.get R m q))
      by true e = let before : tree.get R m q ≡ None = found_same o m k q e ∙ sym was in rw (e, before) refl
      by false e = rw e refl

module _ {K X Y : Type 0} (R : K → K → Ordering) where
  pub named_bare : (m n : BTreeMap K X) (k q : K) (w : X) (view : X → Y) (P : Y → Type 0) → UpdatesBy R (R k) m n (Some w) → P (view w) → IfSome (option_map view (tree.get R m q)) P → IfSome (option_map view (tree.get R n q)) P
  named_bare m n k q w view P updated new old = by (is_eq (R k q)) refl
    where
      by : (b : Bool) → is_eq (R k q) ≡ b → IfSome (option_map view (tree.get R n q)) P
      by true e = let now : tree.get R n q ≡ Some w = updated.0 q ∙ rw e refl in rw now new
      by false e = let now : tree.get R n q ≡ tree.get R m q = updated.0 q ∙ rw e refl in rw now old

pub by_rank_total : IsTotalOrder (λ (x y : ℕ × ℕ). ordering_then (nat_cmp x.0 y.0) (nat_cmp x.1 y.1))
by_rank_total = then_total (on_total (λ (t : ℕ × ℕ). t.0) nat_cmp_total) (on_total (λ (t : ℕ × ℕ). t.1) nat_cmp_total)

pub by_label_total : IsTotalOrder (λ (x y : ℕ × ℕ × ℕ). ordering_then (ordering_then (nat_cmp x.0 y.0) (nat_cmp x.1 y.1)) (nat_cmp x.2 y.2))
by_label_total =
    then_total (then_total (on_total (λ (t : ℕ × ℕ × ℕ). t.0) nat_cmp_total) (on_total (λ (t : ℕ × ℕ × ℕ). t.1) nat_cmp_total)) (on_total (λ (t : ℕ × ℕ × ℕ). t.2) nat_cmp_total)
