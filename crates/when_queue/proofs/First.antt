-- The head, or behind a barrier at the head the first asynchronous message, is the first that is eligible.
use Rattle.std.proofs.Common.{◌≡◌, ◌+◌, ◌<◌, ◌≤◌, ◌⊎◌, ℕ, zero, suc, Bool, true, false, List, [], ◌∷◌, length, take, Option, Some, None, slice_get, refl, sym, ap, ◌∙◌, subst, inl, inr, arith}
use Rattle.std.specs.Prelude.{position}
use Rattle.std.specs.List.{position_or_len, list_any}
use Rattle.std.specs.Option.{option_map}
use Rattle.std.proofs.lemmas.Bool.{cases_Bool, cases_lt, lt-ltb, le-ltb}
use Rattle.loop_model.specs.declared.item.Item.{Item}
use Rattle.loop_model.specs.declared.item.Item.TheVariants.{Post as Message, Barrier as SyncBarrier}
use Rattle.loop_model.specs.Items.{is_barrier, is_asynchronous}
use Rattle.loop_model.specs.Listed.{first_index}
use Rattle.when_queue.specs.First.{IsEligibleAt, IsFirst, place_within}

-- the first place that passes has an item that does
record Passing {X : Type 0} (p : X → Bool) (xs : List X) (i : ℕ) : Type 0 where
  item : X
  there : slice_get xs i ≡ Some item
  passes : p item ≡ true

at_first : {X : Type 0} (p : X → Bool) (xs : List X) → position_or_len p xs < length xs → Passing p xs (position_or_len p xs)
at_first p [] h = absurd (omega arith)
at_first p (x ∷ xs) h = go (p x) refl (at_first p xs)
  where
    go : (b : Bool) → p x ≡ b → (position_or_len p xs < length xs → Passing p xs (position_or_len p xs)) → Passing p (x ∷ xs) (position_or_len p (x ∷ xs))
    go true e rest = let z : position_or_len p (x ∷ xs) ≡ 0 = rw e refl in rw z (record { item = x; there = refl; passes = e })
    go false e rest =
        let k : position_or_len p (x ∷ xs) ≡ suc (position_or_len p xs) = rw e (omega arith) in
        let less : position_or_len p xs < length xs = omega (arith, h, k) in
        let r = rest less in
        rw k (record { item = r.item; there = r.there; passes = r.passes })

-- and none that passes stands before it
not_later : {X : Type 0} (p : X → Bool) (xs : List X) (j : ℕ) (y : X) → slice_get xs j ≡ Some y → p y ≡ true → (position_or_len p xs ≤ j) × (j < length xs)
not_later p [] j y at h = absurd cc
not_later p (x ∷ xs) zero y at h =
    let same : x ≡ y = cc in
    let e : p x ≡ true = ap p same ∙ h in
    let z : position_or_len p (x ∷ xs) ≡ 0 = rw e refl in
    (omega (arith, z), omega arith)
not_later p (x ∷ xs) (suc j) y at h = go (p x) refl (not_later p xs j y at h)
  where
    go : (b : Bool) → p x ≡ b → (position_or_len p xs ≤ j) × (j < length xs) → (position_or_len p (x ∷ xs) ≤ suc j) × (suc j < length (x ∷ xs))
    go true e r = let z : position_or_len p (x ∷ xs) ≡ 0 = rw e refl in (omega (arith, z), omega (arith, r.1))
    go false e r = let k : position_or_len p (x ∷ xs) ≡ suc (position_or_len p xs) = rw e (omega arith) in (omega (arith, k, r.0), omega (arith, r.1))

no_barrier : (x : Item) → is_asynchronous x ≡ true → is_barrier x ≡ false
no_barrier (Message n p) h = refl
no_barrier (SyncBarrier t w) h = absurd cc

-- behind a barrier at the head an eligible message is asynchronous
behind : (x : Item) (q : List Item) (i : ℕ) → is_barrier x ≡ true → IsEligibleAt (x ∷ q) i → (position_or_len is_asynchronous q < i) × (i ≤ length q)
behind x q zero fence e = let same : x ≡ e.item = cc in absurd (let wrong : true ≡ false = sym fence ∙ ap is_barrier same ∙ e.message in cc)
behind x q (suc i) fence e = of e.free
  where
    of : (is_asynchronous e.item ≡ true) ⊎ (list_any is_barrier (x ∷ take i q) ≡ false) → (position_or_len is_asynchronous q < suc i) × (suc i ≤ length q)
    of (inl h) = let r = not_later is_asynchronous q i e.item e.there h in (omega (arith, r.0), omega (arith, r.1))
    of (inr h) = absurd (let wrong : true ≡ false = rw fence at h in cc)

pub first_is : (q : List Item) → IsFirst q (first_index q)
first_is [] = λ i e. absurd (let wrong : None ≡ Some e.item = e.there in cc)
first_is (x ∷ q) =
    elim (cases_Bool (is_barrier x)) [
      | inl fence ↦ rw fence (fenced fence (cases_lt (position_or_len is_asynchronous q) (length q)))
      | inr plain ↦ rw plain (record { item = x; there = refl; message = plain; free = inr refl }, λ j lt e. absurd (omega (arith, lt)))
    ]
  where
    fenced : is_barrier x ≡ true → (position_or_len is_asynchronous q < length q) ⊎ (length q ≤ position_or_len is_asynchronous q) → IsFirst (x ∷ q) (option_map (λ i. i + 1) (position is_asynchronous q))
    fenced fence (inl less) =
        let k : position_or_len is_asynchronous q + 1 ≡ suc (position_or_len is_asynchronous q) = omega arith in
        let r = at_first is_asynchronous q less in
        rw (lt-ltb (position_or_len is_asynchronous q) (length q) less, k) (
          record { item = r.item; there = r.there; message = no_barrier r.item r.passes; free = inl r.passes },
          λ j lt e. let b = behind x q j fence e in absurd (omega (arith, lt, b.0)),
        )
    fenced fence (inr none) = rw (le-ltb (position_or_len is_asynchronous q) (length q) none) (λ j e. let b = behind x q j fence e in absurd (omega (arith, none, b.0, b.1)))

-- so is what a call answers that answers its place
pub first_by : (q : List Item) (at : Option ℕ) → at ≡ first_index q → IsFirst q at
first_by q at is = subst (IsFirst q) (sym is) (first_is q)

-- the place within a length
pub within_not : (i n : ℕ) → n ≤ i → place_within i n ≡ None
within_not i n h = rw (le-ltb i n h) refl

pub within_is : (i n : ℕ) → i < n → place_within i n ≡ Some i
within_is i n h = rw (lt-ltb i n h) refl
