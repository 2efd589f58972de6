-- Items that are put in by rank stand in order.
use Rattle.std.proofs.Common.{◌≡◌, ◌+◌, ◌-◌, ◌<◌, ◌≤◌, ◌^◌, ℕ, suc, true, false, eqb, ltb, List, [], ◌∷◌, Some, None, refl, sym, ap, subst, ◌∙◌, inl, inr, arith, Less, Equal, Greater, Ordering}
use Rattle.std.specs.Prelude.{nat_lt, insert, find, slice_get}
use Rattle.std.specs.List.{AllByRecursion, position_or_len}
use Rattle.std.specs.Map.{values_of}
use Rattle.std.specs.BTreeMap.{insert_entry}
use Rattle.std.specs.Ordering.{nat_cmp, ordering_then, is_eq}
use Rattle.std.specs.Cmp.{nat_cmp_is}
use Rattle.std.proofs.lemmas.Bool.{cases_Bool, cases_lt, eqb-true, eqb-false, lt-ltb, le-ltb}
use Rattle.std.proofs.lemmas.Option.{same_Some, none-some}
use Rattle.loop_model.specs.declared.item.Item.{Item}
use Rattle.loop_model.specs.declared.item.Item.TheVariants.{Post as Message, Barrier as SyncBarrier}
use Rattle.loop_model.specs.Items.{when_of, is_barrier, is_asynchronous}
use Rattle.loop_model.specs.Listed.{insert_item, first_listed}
use Rattle.trace_check.specs.Ranks.{rank_of, IsRanked}
use Rattle.trace_check.specs.Shelves.{by_rank}

lesser : (x y : ℕ × ℕ) → x.0 < y.0 → by_rank x y ≡ Less
lesser x y lt = ap (λ o. ordering_then o (nat_cmp x.1 y.1)) (sym (nat_cmp_is x.0 y.0 Less lt))

greater : (x y : ℕ × ℕ) → y.0 < x.0 → by_rank x y ≡ Greater
greater x y lt = ap (λ o. ordering_then o (nat_cmp x.1 y.1)) (sym (nat_cmp_is x.0 y.0 Greater lt))

then_less : (x y : ℕ × ℕ) → x.0 ≡ y.0 → x.1 < y.1 → by_rank x y ≡ Less
then_less x y e lt = ap (λ o. ordering_then o (nat_cmp x.1 y.1)) (sym (nat_cmp_is x.0 y.0 Equal e)) ∙ sym (nat_cmp_is x.1 y.1 Less lt)

then_greater : (x y : ℕ × ℕ) → x.0 ≡ y.0 → y.1 < x.1 → by_rank x y ≡ Greater
then_greater x y e lt = ap (λ o. ordering_then o (nat_cmp x.1 y.1)) (sym (nat_cmp_is x.0 y.0 Equal e)) ∙ sym (nat_cmp_is x.1 y.1 Greater lt)

rank_zero : (w n : ℕ) → eqb w 0 ≡ true → rank_of w n ≡ (0, 2 ^ 64 - 1 - n)
rank_zero w n e = rw e refl

rank_other : (w n : ℕ) → eqb w 0 ≡ false → rank_of w n ≡ (w, n)
rank_other w n e = rw e refl

both : (w v n p : ℕ) (x y : ℕ × ℕ) (o : Ordering) → rank_of w n ≡ x → rank_of v p ≡ y → by_rank x y ≡ o → by_rank (rank_of w n) (rank_of v p) ≡ o
both w v n p x y o e f h = ap (λ r. by_rank r (rank_of v p)) e ∙ ap (by_rank x) f ∙ h

-- at time 0 a new item stands first
zero_first : (w v n p : ℕ) → p < n → n < 2 ^ 64 → eqb w 0 ≡ true → by_rank (rank_of w n) (rank_of v p) ≡ Less
zero_first w v n p lt small z =
    elim (cases_Bool (eqb v 0)) [
      | inl y ↦ both w v n p (0, 2 ^ 64 - 1 - n) (0, 2 ^ 64 - 1 - p) Less (rank_zero w n z) (rank_zero v p y) (then_less (0, 2 ^ 64 - 1 - n) (0, 2 ^ 64 - 1 - p) refl (omega (arith, lt, small)))
      | inr y ↦ both w v n p (0, 2 ^ 64 - 1 - n) (v, p) Less (rank_zero w n z) (rank_other v p y) (lesser (0, 2 ^ 64 - 1 - n) (v, p) (omega (arith, eqb-false v 0 y)))
    ]

-- at another time it stands before what is later
before_later : (w v n p : ℕ) → eqb w 0 ≡ false → ltb w v ≡ true → w < v → by_rank (rank_of w n) (rank_of v p) ≡ Less
before_later w v n p z t lt =
    elim (cases_Bool (eqb v 0)) [
      | inl y ↦ absurd (omega (arith, eqb-true v 0 y, lt))
      | inr y ↦ both w v n p (w, n) (v, p) Less (rank_other w n z) (rank_other v p y) (lesser (w, n) (v, p) lt)
    ]

-- and behind all else
behind_others : (w v n p : ℕ) → p < n → eqb w 0 ≡ false → v ≤ w → by_rank (rank_of w n) (rank_of v p) ≡ Greater
behind_others w v n p lt z le =
    elim (cases_Bool (eqb v 0)) [
      | inl y ↦ both w v n p (w, n) (0, 2 ^ 64 - 1 - p) Greater (rank_other w n z) (rank_zero v p y) (greater (w, n) (0, 2 ^ 64 - 1 - p) (omega (arith, eqb-false w 0 z)))
      | inr y ↦ elim (cases_lt v w) [
        | inl less ↦ both w v n p (w, n) (v, p) Greater (rank_other w n z) (rank_other v p y) (greater (w, n) (v, p) less)
        | inr ge ↦ let same : w ≡ v = omega (arith, le, ge) in both w v n p (w, n) (v, p) Greater (rank_other w n z) (rank_other v p y) (then_greater (w, n) (v, p) same lt)
      ]
    ]

abbrev Entries : Type 0
Entries = List ((ℕ × ℕ) × Item)

insert_next : (y x : Item) (ys : List Item) (i : ℕ) → insert (y ∷ ys) (1 + i) x ≡ y ∷ insert ys i x
insert_next y x ys i = let e : 1 + i ≡ suc i = omega arith in rw e refl

abbrev put : ℕ → Item → Entries → Entries
put n x es = insert_entry by_rank es (rank_of (when_of x) n) x

put_less : (n : ℕ) (x : Item) (e : (ℕ × ℕ) × Item) (es : Entries) → by_rank (rank_of (when_of x) n) e.0 ≡ Less → put n x (e ∷ es) ≡ (rank_of (when_of x) n, x) ∷ e ∷ es
put_less n x e es h = rw h refl

put_greater : (n : ℕ) (x : Item) (e : (ℕ × ℕ) × Item) (es : Entries) → by_rank (rank_of (when_of x) n) e.0 ≡ Greater → put n x (e ∷ es) ≡ e ∷ put n x es
put_greater n x e es h = rw h refl

-- a new item goes to its slot, and the ranks are those of the places so far
abbrev PutsIn : ℕ → Item → Entries → Type 0
PutsIn n x es = (values_of (put n x es) ≡ insert_item x (values_of es)) × AllByRecursion (IsRanked (n + 1)) (put n x es)

ranked_more : (n : ℕ) (e : (ℕ × ℕ) × Item) → IsRanked n e → IsRanked (n + 1) e
ranked_more n e r = (r.0, omega (arith, r.1), r.2)

pub all_ranked_more : (n : ℕ) (es : Entries) → AllByRecursion (IsRanked n) es → AllByRecursion (IsRanked (n + 1)) es
all_ranked_more n [] r = tt
all_ranked_more n (e ∷ es) r = (ranked_more n e r.0, all_ranked_more n es r.1)

new_ranked : (n : ℕ) (x : Item) → IsRanked (n + 1) (rank_of (when_of x) n, x)
new_ranked n x = (n, omega arith, refl)

puts_zero : (n : ℕ) (x : Item) (es : Entries) → n < 2 ^ 64 → eqb (when_of x) 0 ≡ true → AllByRecursion (IsRanked n) es → PutsIn n x es
unfolding insert_item
puts_zero n x [] small z r = (rw z refl, (new_ranked n x, tt))
puts_zero n x (e ∷ es) small z r =
    let less : by_rank (rank_of (when_of x) n) e.0 ≡ Less = ap (by_rank (rank_of (when_of x) n)) r.0.2 ∙ zero_first (when_of x) (when_of e.1) n r.0.0 r.0.1 small z in
    let made = put_less n x e es less in
    let slot : insert_item x (values_of (e ∷ es)) ≡ x ∷ values_of (e ∷ es) = rw z refl in
    (ap values_of made ∙ sym slot, subst (AllByRecursion (IsRanked (n + 1))) (sym made) (new_ranked n x, all_ranked_more n (e ∷ es) r))

puts_other : (n : ℕ) (x : Item) (es : Entries) → n < 2 ^ 64 → eqb (when_of x) 0 ≡ false → AllByRecursion (IsRanked n) es → PutsIn n x es
unfolding insert_item
puts_other n x [] small z r = (rw z refl, (new_ranked n x, tt))
puts_other n x (e ∷ es) small z r =
    elim (cases_lt (when_of x) (when_of e.1)) [
      | inl lt ↦
          let test = lt-ltb (when_of x) (when_of e.1) lt in
          let less : by_rank (rank_of (when_of x) n) e.0 ≡ Less = ap (by_rank (rank_of (when_of x) n)) r.0.2 ∙ before_later (when_of x) (when_of e.1) n r.0.0 z test lt in
          let made = put_less n x e es less in
          let slot : insert_item x (values_of (e ∷ es)) ≡ x ∷ values_of (e ∷ es) = rw (z, test) refl in
          (ap values_of made ∙ sym slot, subst (AllByRecursion (IsRanked (n + 1))) (sym made) (new_ranked n x, all_ranked_more n (e ∷ es) r))
      | inr le ↦
          let test = le-ltb (when_of x) (when_of e.1) le in
          let more : by_rank (rank_of (when_of x) n) e.0 ≡ Greater = ap (by_rank (rank_of (when_of x) n)) r.0.2 ∙ behind_others (when_of x) (when_of e.1) n r.0.0 r.0.1 z le in
          let made = put_greater n x e es more in
          let rest = puts_other n x es small z r.1 in
          let here : insert_item x (values_of es) ≡ insert (values_of es) (position_or_len (λ y. nat_lt (when_of x) (when_of y)) (values_of es)) x = rw z refl in
          let slot : insert_item x (values_of (e ∷ es)) ≡ e.1 ∷ insert_item x (values_of es) = (rw (z, test) (insert_next e.1 x (values_of es) (position_or_len (λ y. nat_lt (when_of x) (when_of y)) (values_of es)))) ∙ ap (λ q. e.1 ∷ q) (sym here) in
          (ap values_of made ∙ ap (λ q. e.1 ∷ q) rest.0 ∙ sym slot, subst (AllByRecursion (IsRanked (n + 1))) (sym made) (ranked_more n e r.0, rest.1))
    ]

puts_in : (n : ℕ) (x : Item) (es : Entries) → n < 2 ^ 64 → AllByRecursion (IsRanked n) es → PutsIn n x es
puts_in n x es small r =
    elim (cases_Bool (eqb (when_of x) 0)) [
      | inl z ↦ puts_zero n x es small z r
      | inr z ↦ puts_other n x es small z r
    ]

-- what the tree leaves, where the key is the item's rank
pub put_listed : (n : ℕ) (x : Item) (es fs : Entries) (k : ℕ × ℕ) → n < 2 ^ 64 → AllByRecursion (IsRanked n) es → k ≡ rank_of (when_of x) n → fs ≡ insert_entry by_rank es k x → values_of fs ≡ insert_item x (values_of es)
put_listed n x es fs k small r key made = ap values_of (made ∙ ap (λ j. insert_entry by_rank es j x) key) ∙ (puts_in n x es small r).0

pub put_ranked : (n : ℕ) (x : Item) (es fs : Entries) (k : ℕ × ℕ) → n < 2 ^ 64 → AllByRecursion (IsRanked n) es → k ≡ rank_of (when_of x) n → fs ≡ insert_entry by_rank es k x → AllByRecursion (IsRanked (n + 1)) fs
put_ranked n x es fs k small r key made = subst (AllByRecursion (IsRanked (n + 1))) (sym (made ∙ ap (λ j. insert_entry by_rank es j x) key)) (puts_in n x es small r).1

-- a new rank is none of those so far
apart_one : (n w : ℕ) (e : (ℕ × ℕ) × Item) → n < 2 ^ 64 → IsRanked n e → is_eq (by_rank (rank_of w n) e.0) ≡ false
apart_one n w e small r =
    elim (cases_Bool (eqb w 0)) [
      | inl z ↦ let o : by_rank (rank_of w n) e.0 ≡ Less = ap (by_rank (rank_of w n)) r.2 ∙ zero_first w (when_of e.1) n r.0 r.1 small z in ap is_eq o
      | inr z ↦ elim (cases_lt w (when_of e.1)) [
        | inl lt ↦ let o : by_rank (rank_of w n) e.0 ≡ Less = ap (by_rank (rank_of w n)) r.2 ∙ before_later w (when_of e.1) n r.0 z (lt-ltb w (when_of e.1) lt) lt in ap is_eq o
        | inr le ↦ let o : by_rank (rank_of w n) e.0 ≡ Greater = ap (by_rank (rank_of w n)) r.2 ∙ behind_others w (when_of e.1) n r.0 r.1 z le in ap is_eq o
      ]
    ]

all_apart : (n w : ℕ) (es : Entries) → n < 2 ^ 64 → AllByRecursion (IsRanked n) es → AllByRecursion (λ e. is_eq (by_rank (rank_of w n) e.0) ≡ false) es
all_apart n w [] small r = tt
all_apart n w (e ∷ es) small r = (apart_one n w e small r.0, all_apart n w es small r.1)

pub new_apart : (n w : ℕ) (k : ℕ × ℕ) (es : Entries) → n < 2 ^ 64 → AllByRecursion (IsRanked n) es → k ≡ rank_of w n → AllByRecursion (λ e. is_eq (by_rank k e.0) ≡ false) es
new_apart n w k es small r key = subst (λ j. AllByRecursion (λ e. is_eq (by_rank j e.0) ≡ false) es) (sym key) (all_apart n w es small r)

-- ---- the first eligible message

pub first_of_none : (q : List Item) → slice_get q 0 ≡ None → None ≡ first_listed q
unfolding first_listed
first_of_none [] e = refl
first_of_none (x ∷ q) e = absurd (none-some x (sym e))

no_message : (x : Item) → is_barrier x ≡ true → is_asynchronous x ≡ false
no_message (Message n p) e = absurd cc
no_message (SyncBarrier t w) e = refl

pub first_behind : (q : List Item) (x : Item) → slice_get q 0 ≡ Some x → is_barrier x ≡ true → find is_asynchronous q ≡ first_listed q
unfolding first_listed
first_behind [] x e b = absurd (none-some x e)
first_behind (y ∷ q) x e b = let bar : is_barrier y ≡ true = subst (λ z. is_barrier z ≡ true) (sym (same_Some y x e)) b in rw (no_message y bar, bar) refl

pub first_head : (q : List Item) (x : Item) → slice_get q 0 ≡ Some x → is_barrier x ≡ false → Some x ≡ first_listed q
unfolding first_listed
first_head [] x e b = absurd (none-some x e)
first_head (y ∷ q) x e b =
    let same : y ≡ x = same_Some y x e in
    let bar : is_barrier y ≡ false = subst (λ z. is_barrier z ≡ false) (sym same) b in rw bar (ap (λ (z : Item). Some z) (sym same))
