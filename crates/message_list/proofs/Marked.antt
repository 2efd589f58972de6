-- Marks where a node comes or goes.
use Rattle.std.proofs.Common.{◌≡◌, ℕ, zero, suc, ◌+◌, ◌-◌, ◌<◌, ◌≤◌, List, [], ◌∷◌, ◌++◌, length, take, drop, set, get_or, refl, sym, ap, ◌∙◌, subst, inl, inr, ◌⊎◌, arith}
use Rattle.std.specs.Prelude.{insert}
use mathlib.Core.Option.{some as just, some-injective, some-ne-none}
use lib.ListN.{get_elem?, length-map}
use denote.RawPtr.{Ptr}
use Rattle.message_list.specs.declared.group.Mark.{Mark}
use Rattle.message_list.specs.declared.group.Group.{Group}
use Rattle.message_list.specs.declared.place.Place.{Place}
use Rattle.message_list.specs.Links.{PlacedNode, places_of, HasOneMore}
use Rattle.message_list.specs.Store.{Holds}
use Rattle.message_list.specs.declared.marks.Marks.{Marks}
use Rattle.message_list.specs.Marks.{gaps, counts, LeadsTo, LeadFrom, IsGroupAt, AreGroupsAt, IsSame, AreMarksSound, Lead, with_node}

-- ---- where the nodes lie

kept_before : {X : Type 0} (xs : List X) (i k : ℕ) (a : X) → k < i → i ≤ length xs → get_elem? (take i xs ++ a ∷ drop i xs) k ≡ get_elem? xs k
kept_before xs zero k a lt le = absurd (omega arith)
kept_before [] (suc i) k a lt le = absurd (omega arith)
kept_before (x ∷ xs) (suc i) zero a lt le = refl
kept_before (x ∷ xs) (suc i) (suc k) a lt le = kept_before xs i k a (omega arith) (omega arith)

kept_behind : {X : Type 0} (xs : List X) (i k : ℕ) (a : X) → i ≤ k → i ≤ length xs → get_elem? (take i xs ++ a ∷ drop i xs) (suc k) ≡ get_elem? xs k
kept_behind xs zero k a lt le = refl
kept_behind [] (suc i) k a lt le = absurd (omega arith)
kept_behind (x ∷ xs) (suc i) zero a lt le = absurd (omega arith)
kept_behind (x ∷ xs) (suc i) (suc k) a lt le = kept_behind xs i k a (omega arith) (omega arith)

long_more : {X : Type 0} (xs : List X) (i : ℕ) (a : X) → length (take i xs ++ a ∷ drop i xs) ≡ length xs + 1
long_more xs zero a = omega arith
long_more [] (suc i) a = omega arith
long_more (x ∷ xs) (suc i) a = let e = long_more xs i a in omega arith

-- a node behind the last changes no mark
kept_last : (xs : List Ptr) (i k : ℕ) (a q : Ptr) → i ≡ length xs → get_elem? xs k ≡ just q → get_elem? (take i xs ++ a ∷ drop i xs) k ≡ just q
kept_last [] i k a q e is = absurd (some-ne-none q (sym is))
kept_last (x ∷ xs) zero k a q e is = absurd (omega (arith, e))
kept_last (x ∷ xs) (suc i) zero a q e is = is
kept_last (x ∷ xs) (suc i) (suc k) a q e is = kept_last xs i k a q (omega (arith, e)) is

-- ---- sums

pub gaps_more : (ms : List Mark) (k : ℕ) (d : Mark) → k < length ms → gaps (take (suc k) ms) ≡ gaps (take k ms) + (get_or ms k d).gap
gaps_more [] k d lt = absurd (omega arith)
gaps_more (m ∷ ms) zero d lt = omega arith
gaps_more (m ∷ ms) (suc k) d lt = let rest = gaps_more ms k d (omega arith) in omega arith

pub counts_more : (gs : List Group) (k : ℕ) (d : Group) → k < length gs → counts (take (suc k) gs) ≡ counts (take k gs) + (get_or gs k d).count
counts_more [] k d lt = absurd (omega arith)
counts_more (g ∷ gs) zero d lt = omega arith
counts_more (g ∷ gs) (suc k) d lt = let rest = counts_more gs k d (omega arith) in omega arith

pub take_all : {X : Type 0} (xs : List X) (n : ℕ) → length xs ≤ n → take n xs ≡ xs
take_all [] zero le = refl
take_all [] (suc n) le = refl
take_all (x ∷ xs) zero le = absurd (omega arith)
take_all (x ∷ xs) (suc n) le = ap (λ l. x ∷ l) (take_all xs n (omega arith))

pub take_set : {X : Type 0} (xs : List X) (k : ℕ) (y : X) → take k (set xs k y) ≡ take k xs
take_set xs zero y = refl
take_set [] (suc k) y = refl
take_set (x ∷ xs) (suc k) y = ap (λ l. x ∷ l) (take_set xs k y)

pub take_insert : {X : Type 0} (xs : List X) (k : ℕ) (y : X) → k < length xs → take k (insert xs (suc k) y) ≡ take k xs
take_insert xs zero y lt = refl
take_insert [] (suc k) y lt = absurd (omega arith)
take_insert (x ∷ xs) (suc k) y lt = ap (λ l. x ∷ l) (take_insert xs k y (omega arith))

pub long_set : {X : Type 0} (xs : List X) (k : ℕ) (y : X) → length (set xs k y) ≡ length xs
long_set [] k y = refl
long_set (x ∷ xs) zero y = refl
long_set (x ∷ xs) (suc k) y = ap suc (long_set xs k y)

pub long_insert : {X : Type 0} (xs : List X) (k : ℕ) (y : X) → k ≤ length xs → length (insert xs k y) ≡ suc (length xs)
long_insert [] zero y le = refl
long_insert [] (suc k) y le = absurd (omega arith)
long_insert (x ∷ xs) zero y le = refl
long_insert (x ∷ xs) (suc k) y le = ap suc (long_insert xs k y (omega arith))

pub long_drop : {X : Type 0} (xs : List X) (k : ℕ) → length (drop k xs) ≡ length xs - k
long_drop xs zero = omega arith
long_drop [] (suc k) = omega arith
long_drop (x ∷ xs) (suc k) = let rest = long_drop xs k in omega arith

-- ---- a node comes before the node i

module _ (f i : ℕ) (few : List Ptr) (p : Ptr) (le : i ≤ length few) where
  low_to : (n : ℕ) (q : Ptr) → n < f + i → LeadsTo f few n q → LeadsTo f (with_node i p few) n q
  low_to n q lt h k is = kept_before few i k p (omega (arith, lt, is)) le ∙ h k is

  high_to : (n : ℕ) (q : Ptr) → f + i ≤ n → LeadsTo f few n q → LeadsTo f (with_node i p few) (n + 1) q
  high_to n q low h k is =
      let whole : k ≡ suc (k - 1) = omega (arith, low, is) in
      subst (λ j. get_elem? (with_node i p few) j ≡ just q) (sym whole) (kept_behind few i (k - 1) p (omega (arith, low, is)) le ∙ h (k - 1) (omega (arith, low, is)))

  low_from : (n : ℕ) (ms : List Mark) → n + gaps ms < f + i → LeadFrom f few n ms → LeadFrom f (with_node i p few) n ms
  low_from n [] lt h = tt
  low_from n (m ∷ ms) lt h = (low_to n m.at.ptr (omega (arith, lt)) h.0, h.1, low_from (n + m.gap) ms (omega (arith, lt)) h.2)

  high_from : (n : ℕ) (ms : List Mark) → f + i ≤ n → LeadFrom f few n ms → LeadFrom f (with_node i p few) (n + 1) ms
  high_from n [] low h = tt
  high_from n (m ∷ ms) low h =
      let on : n + m.gap + 1 ≡ n + 1 + m.gap = omega arith in
      (high_to n m.at.ptr low h.0, h.1, subst (λ b. LeadFrom f (with_node i p few) b ms) on (high_from (n + m.gap) ms (omega (arith, low)) h.2))

  pub raised_from : (n : ℕ) (ms : List Mark) (k left : ℕ) (m' d : Mark) → n + (gaps (take k ms) + left) + 1 ≡ f + i → k < length ms → left < (get_or ms k d).gap → m'.at ≡ (get_or ms k d).at → m'.gap ≡ (get_or ms k d).gap + 1
      → LeadFrom f few n ms → LeadFrom f (with_node i p few) n (set ms k m') × (gaps (set ms k m') ≡ gaps ms + 1)
  raised_from n [] k left m' d is lt low at gap h = absurd (omega (arith, lt))
  raised_from n (m ∷ ms) zero left m' d is lt low at gap h =
      let on : n + m.gap + 1 ≡ n + m'.gap = omega (arith, gap) in (
        (
          subst (λ (q : Place). LeadsTo f (with_node i p few) n q.ptr) (sym at) (low_to n m.at.ptr (omega (arith, is)) h.0),
          omega (arith, gap),
          subst (λ b. LeadFrom f (with_node i p few) b ms) on (high_from (n + m.gap) ms (omega (arith, is, low)) h.2),
        ),
        omega (arith, gap),
      )
  raised_from n (m ∷ ms) (suc k) left m' d is lt low at gap h =
      let rest = raised_from (n + m.gap) ms k left m' d (omega (arith, is)) (omega (arith, lt)) low at gap h.2 in
      let more = rest.1 in
      ((low_to n m.at.ptr (omega (arith, is)) h.0, h.1, rest.0), omega (arith, more))

  groups_low : (n : ℕ) (gs : List Group) → n + counts gs < f + i → AreGroupsAt f few n gs → AreGroupsAt f (with_node i p few) n gs
  groups_low n [] lt h = tt
  groups_low n (g ∷ gs) lt h = let sum = h.0.1 in ((low_from n g.list.items (omega (arith, lt, sum)) h.0.0, sum), groups_low (n + g.count) gs (omega (arith, lt)) h.1)

  groups_high : (n : ℕ) (gs : List Group) → f + i ≤ n → AreGroupsAt f few n gs → AreGroupsAt f (with_node i p few) (n + 1) gs
  groups_high n [] low h = tt
  groups_high n (g ∷ gs) low h =
      let on : n + g.count + 1 ≡ n + 1 + g.count = omega arith in
      ((high_from n g.list.items low h.0.0, h.0.1), subst (λ b. AreGroupsAt f (with_node i p few) b gs) on (groups_high (n + g.count) gs (omega (arith, low)) h.1))

  -- all lie before it
  pub groups_before : (n number : ℕ) (gs : List Group) → number + 1 ≡ f + i → n + counts gs ≤ number → AreGroupsAt f few n gs → AreGroupsAt f (with_node i p few) n gs
  groups_before n number gs is low h = groups_low n gs (omega (arith, is, low)) h

  -- it comes within the group k
  pub raised_groups : (n number : ℕ) (gs : List Group) (k b : ℕ) (g' d : Group) → number + 1 ≡ f + i → k < length gs → b ≡ n + counts (take k gs) → b ≤ number → number < b + (get_or gs k d).count
      → (IsGroupAt f few b (get_or gs k d) → IsGroupAt f (with_node i p few) b g' × (g'.count ≡ (get_or gs k d).count + 1)) → AreGroupsAt f few n gs → AreGroupsAt f (with_node i p few) n (set gs k g')
  raised_groups n number [] k b g' d is lt at low high step h = absurd (omega (arith, lt))
  raised_groups n number (g ∷ gs) zero b g' d is lt at low high step h =
      let here : b ≡ n = omega (arith, at) in
      let all = step (subst (λ c. IsGroupAt f few c g) (sym here) h.0) in
      let more = all.1 in
      let on : n + g.count + 1 ≡ n + g'.count = omega (arith, more) in
      (subst (λ c. IsGroupAt f (with_node i p few) c g') here all.0, subst (λ c. AreGroupsAt f (with_node i p few) c gs) on (groups_high (n + g.count) gs (omega (arith, is, high, here)) h.1))
  raised_groups n number (g ∷ gs) (suc k) b g' d is lt at low high step h =
      let sum = h.0.1 in
      ((low_from n g.list.items (omega (arith, is, at, low, sum)) h.0.0, sum), raised_groups (n + g.count) number gs k b g' d is (omega (arith, lt)) (omega (arith, at)) low high step h.1)

-- ---- the node i goes

module _ (f i : ℕ) (few : List Ptr) (p : Ptr) (le : i ≤ length few) where
  gone_low : (n : ℕ) (q : Ptr) → n < f + i → LeadsTo f (with_node i p few) n q → LeadsTo f few n q
  gone_low n q lt h k is = sym (kept_before few i k p (omega (arith, lt, is)) le) ∙ h k is

  gone_high : (n : ℕ) (q : Ptr) → f + i ≤ n → LeadsTo f (with_node i p few) (n + 1) q → LeadsTo f few n q
  gone_high n q low h k is = sym (kept_behind few i k p (omega (arith, low, is)) le) ∙ h (suc k) (omega (arith, is))

  gone_low_from : (n : ℕ) (ms : List Mark) → n + gaps ms ≤ f + i → LeadFrom f (with_node i p few) n ms → LeadFrom f few n ms
  gone_low_from n [] lt h = tt
  gone_low_from n (m ∷ ms) lt h = let some = h.1 in (gone_low n m.at.ptr (omega (arith, lt, some)) h.0, some, gone_low_from (n + m.gap) ms (omega (arith, lt)) h.2)

  gone_high_from : (n : ℕ) (ms : List Mark) → f + i ≤ n → LeadFrom f (with_node i p few) (n + 1) ms → LeadFrom f few n ms
  gone_high_from n [] low h = tt
  gone_high_from n (m ∷ ms) low h =
      let on : n + 1 + m.gap ≡ n + m.gap + 1 = omega arith in
      (gone_high n m.at.ptr low h.0, h.1, gone_high_from (n + m.gap) ms (omega (arith, low)) (subst (λ b. LeadFrom f (with_node i p few) b ms) on h.2))

  -- the first of the marks is `left` nodes before that which goes
  gone_at : (n left : ℕ) (m m' : Mark) → n + left ≡ f + i → (left ≡ 0 → get_elem? few i ≡ just m'.at.ptr) → (0 < left → m'.at ≡ m.at) → LeadsTo f (with_node i p few) n m.at.ptr → LeadsTo f few n m'.at.ptr
  gone_at n zero m m' is next same h = λ k at. let here : i ≡ k = omega (arith, is, at) in subst (λ j. get_elem? few j ≡ just m'.at.ptr) here (next refl)
  gone_at n (suc left) m m' is next same h = subst (λ (q : Place). LeadsTo f few n q.ptr) (sym (same (omega arith))) (gone_low n m.at.ptr (omega (arith, is)) h)

  pub narrowed_from : (n : ℕ) (ms : List Mark) (k left : ℕ) (m' d : Mark) → n + (gaps (take k ms) + left) ≡ f + i → k < length ms → left < (get_or ms k d).gap → 0 < m'.gap → m'.gap + 1 ≡ (get_or ms k d).gap
      → (left ≡ 0 → get_elem? few i ≡ just m'.at.ptr) → (0 < left → m'.at ≡ (get_or ms k d).at) → LeadFrom f (with_node i p few) n ms → LeadFrom f few n (set ms k m') × (gaps ms ≡ gaps (set ms k m') + 1)
  narrowed_from n [] k left m' d is lt low some gap next same h = absurd (omega (arith, lt))
  narrowed_from n (m ∷ ms) zero left m' d is lt low some gap next same h =
      let on : n + m.gap ≡ n + m'.gap + 1 = omega (arith, gap) in (
        (gone_at n left m m' (omega (arith, is)) next same h.0, some, gone_high_from (n + m'.gap) ms (omega (arith, is, low, gap)) (subst (λ b. LeadFrom f (with_node i p few) b ms) on h.2)),
        omega (arith, gap),
      )
  narrowed_from n (m ∷ ms) (suc k) left m' d is lt low some gap next same h =
      let rest = narrowed_from (n + m.gap) ms k left m' d (omega (arith, is)) (omega (arith, lt)) low some gap next same h.2 in
      let more = rest.1 in
      let wide = h.1 in
      ((gone_low n m.at.ptr (omega (arith, is, wide)) h.0, wide, rest.0), omega (arith, more))

  groups_gone_low : (n : ℕ) (gs : List Group) → n + counts gs ≤ f + i → AreGroupsAt f (with_node i p few) n gs → AreGroupsAt f few n gs
  groups_gone_low n [] lt h = tt
  groups_gone_low n (g ∷ gs) lt h = let sum = h.0.1 in ((gone_low_from n g.list.items (omega (arith, lt, sum)) h.0.0, sum), groups_gone_low (n + g.count) gs (omega (arith, lt)) h.1)

  groups_gone_high : (n : ℕ) (gs : List Group) → f + i ≤ n → AreGroupsAt f (with_node i p few) (n + 1) gs → AreGroupsAt f few n gs
  groups_gone_high n [] low h = tt
  groups_gone_high n (g ∷ gs) low h =
      let on : n + 1 + g.count ≡ n + g.count + 1 = omega arith in
      ((gone_high_from n g.list.items low h.0.0, h.0.1), groups_gone_high (n + g.count) gs (omega (arith, low)) (subst (λ b. AreGroupsAt f (with_node i p few) b gs) on h.1))

  -- all lie before it
  pub groups_gone_before : (n number : ℕ) (gs : List Group) → number ≡ f + i → n + counts gs ≤ number → AreGroupsAt f (with_node i p few) n gs → AreGroupsAt f few n gs
  groups_gone_before n number gs is low h = groups_gone_low n gs (omega (arith, is, low)) h

  -- it goes within the group k
  pub narrowed_groups : (n number : ℕ) (gs : List Group) (k b : ℕ) (g' d : Group) → number ≡ f + i → k < length gs → b ≡ n + counts (take k gs) → b ≤ number → number < b + (get_or gs k d).count
      → (IsGroupAt f (with_node i p few) b (get_or gs k d) → IsGroupAt f few b g' × ((get_or gs k d).count ≡ g'.count + 1)) → AreGroupsAt f (with_node i p few) n gs → AreGroupsAt f few n (set gs k g')
  narrowed_groups n number [] k b g' d is lt at low high step h = absurd (omega (arith, lt))
  narrowed_groups n number (g ∷ gs) zero b g' d is lt at low high step h =
      let here : b ≡ n = omega (arith, at) in
      let all = step (subst (λ c. IsGroupAt f (with_node i p few) c g) (sym here) h.0) in
      let more = all.1 in
      let on : n + g.count ≡ n + g'.count + 1 = omega (arith, more) in
      (subst (λ c. IsGroupAt f few c g') here all.0, groups_gone_high (n + g'.count) gs (omega (arith, is, high, here, more)) (subst (λ c. AreGroupsAt f (with_node i p few) c gs) on h.1))
  narrowed_groups n number (g ∷ gs) (suc k) b g' d is lt at low high step h =
      let sum = h.0.1 in
      ((gone_low_from n g.list.items (omega (arith, is, at, low, sum)) h.0.0, sum), narrowed_groups (n + g.count) number gs k b g' d is (omega (arith, lt)) (omega (arith, at)) low high step h.1)

-- ---- the first node goes

passed_from : (f n : ℕ) (few : List Ptr) (p : Ptr) (ms : List Mark) → LeadFrom f (p ∷ few) n ms → LeadFrom (f + 1) few n ms
passed_from f n few p [] h = tt
passed_from f n few p (m ∷ ms) h = ((λ k is. h.0 (suc k) (omega (arith, is))), h.1, passed_from f (n + m.gap) few p ms h.2)

pub passed_groups : (f n : ℕ) (few : List Ptr) (p : Ptr) (gs : List Group) → AreGroupsAt f (p ∷ few) n gs → AreGroupsAt (f + 1) few n gs
passed_groups f n few p [] h = tt
passed_groups f n few p (g ∷ gs) h = ((passed_from f n few p g.list.items h.0.0, h.0.1), passed_groups f (n + g.count) few p gs h.1)

-- ---- a node comes behind the last

last_to : (f n i : ℕ) (few : List Ptr) (p q : Ptr) → i ≡ length few → LeadsTo f few n q → LeadsTo f (with_node i p few) n q
last_to f n i few p q e h k is = kept_last few i k p q e (h k is)

last_from : (f n i : ℕ) (few : List Ptr) (p : Ptr) (ms : List Mark) → i ≡ length few → LeadFrom f few n ms → LeadFrom f (with_node i p few) n ms
last_from f n i few p [] e h = tt
last_from f n i few p (m ∷ ms) e h = (last_to f n i few p m.at.ptr e h.0, h.1, last_from f (n + m.gap) i few p ms e h.2)

pub last_groups : (f n i : ℕ) (few : List Ptr) (p : Ptr) (gs : List Group) → i ≡ length few → AreGroupsAt f few n gs → AreGroupsAt f (with_node i p few) n gs
last_groups f n i few p [] e h = tt
last_groups f n i few p (g ∷ gs) e h = ((last_from f n i few p g.list.items e h.0.0, h.0.1), last_groups f (n + g.count) i few p gs e h.1)

-- ---- a mark that is read

module _ (f : ℕ) (places : List Ptr) where
  pub read_from : (n : ℕ) (ms : List Mark) (k : ℕ) (d : Mark) → k < length ms → LeadFrom f places n ms → LeadsTo f places (n + gaps (take k ms)) (get_or ms k d).at.ptr
  read_from n [] k d lt h = absurd (omega (arith, lt))
  read_from n (m ∷ ms) zero d lt h = let here : n ≡ n + 0 = omega arith in subst (λ b. LeadsTo f places b m.at.ptr) here h.0
  read_from n (m ∷ ms) (suc k) d lt h =
      let on : n + m.gap + gaps (take k ms) ≡ n + (m.gap + gaps (take k ms)) = omega arith in
      subst (λ b. LeadsTo f places b (get_or ms k d).at.ptr) on (read_from (n + m.gap) ms k d (omega (arith, lt)) h.2)

  pub group_at : (n : ℕ) (gs : List Group) (k : ℕ) (d : Group) → k < length gs → AreGroupsAt f places n gs → IsGroupAt f places (n + counts (take k gs)) (get_or gs k d)
  group_at n [] k d lt h = absurd (omega (arith, lt))
  group_at n (g ∷ gs) zero d lt h = let here : n ≡ n + 0 = omega arith in subst (λ b. IsGroupAt f places b g) here h.0
  group_at n (g ∷ gs) (suc k) d lt h =
      let on : n + g.count + counts (take k gs) ≡ n + (g.count + counts (take k gs)) = omega arith in
      subst (λ b. IsGroupAt f places b (get_or gs k d)) on (group_at (n + g.count) gs k d (omega (arith, lt)) h.1)

  -- ---- more marks

  -- another mark in the place of one with the same way
  pub same_from : (n : ℕ) (ms : List Mark) (k : ℕ) (m' d : Mark) → k < length ms → m'.at ≡ (get_or ms k d).at → m'.gap ≡ (get_or ms k d).gap → LeadFrom f places n ms → LeadFrom f places n (set ms k m') × (gaps ms ≡ gaps (set ms k m'))
  same_from n [] k m' d lt at gap h = absurd (omega (arith, lt))
  same_from n (m ∷ ms) zero m' d lt at gap h =
      let some = h.1 in
      ((subst (λ (q : Place). LeadsTo f places n q.ptr) (sym at) h.0, omega (arith, gap, some), subst (λ b. LeadFrom f places (n + b) ms) (sym gap) h.2), omega (arith, gap))
  same_from n (m ∷ ms) (suc k) m' d lt at gap h =
      let rest = same_from (n + m.gap) ms k m' d (omega (arith, lt)) at gap h.2 in
      let more = rest.1 in
      ((h.0, h.1, rest.0), omega (arith, more))

  -- the way behind the last mark gets longer
  pub reached_from : (n : ℕ) (ms : List Mark) (k more : ℕ) (m' d : Mark) → suc k ≡ length ms → m'.at ≡ (get_or ms k d).at → m'.gap ≡ (get_or ms k d).gap + more → LeadFrom f places n ms → LeadFrom f places n (set ms k m') × (gaps ms + more ≡ gaps (set ms k m'))
  reached_from n [] k more m' d last at gap h = absurd (omega (arith, last))
  reached_from n (m ∷ []) zero more m' d last at gap h = let some = h.1 in ((subst (λ (q : Place). LeadsTo f places n q.ptr) (sym at) h.0, omega (arith, gap, some), tt), omega (arith, gap))
  reached_from n (m ∷ a ∷ ms) zero more m' d last at gap h = absurd (omega (arith, last))
  reached_from n (m ∷ ms) (suc k) more m' d last at gap h =
      let rest = reached_from (n + m.gap) ms k more m' d (omega (arith, last)) at gap h.2 in
      let on = rest.1 in
      ((h.0, h.1, rest.0), omega (arith, on))

  pub reached_groups : (n : ℕ) (gs : List Group) (k : ℕ) (g' d : Group) → suc k ≡ length gs → ((b : ℕ) → IsGroupAt f places b (get_or gs k d) → IsGroupAt f places b g') → AreGroupsAt f places n gs → AreGroupsAt f places n (set gs k g')
  reached_groups n [] k g' d last step h = absurd (omega (arith, last))
  reached_groups n (g ∷ []) zero g' d last step h = (step n h.0, tt)
  reached_groups n (g ∷ a ∷ gs) zero g' d last step h = absurd (omega (arith, last))
  reached_groups n (g ∷ gs) (suc k) g' d last step h = (h.0, reached_groups (n + g.count) gs k g' d (omega (arith, last)) step h.1)

  -- one mark more, `left` nodes behind that of the place k
  pub put_from : (n : ℕ) (ms : List Mark) (k left : ℕ) (m' x d : Mark) → k < length ms → 0 < left → m'.at ≡ (get_or ms k d).at → m'.gap ≡ left → x.gap + left ≡ (get_or ms k d).gap → 0 < x.gap
      → LeadsTo f places (n + (gaps (take k ms) + left)) x.at.ptr → LeadFrom f places n ms → LeadFrom f places n (set (insert ms (suc k) x) k m') × (gaps ms ≡ gaps (set (insert ms (suc k) x) k m'))
  put_from n [] k left m' x d lt some at is gap rest to h = absurd (omega (arith, lt))
  put_from n (m ∷ ms) zero left m' x d lt some at is gap rest to h =
      let there : n + (0 + left) ≡ n + m'.gap = omega (arith, is) in
      let on : n + m.gap ≡ n + m'.gap + x.gap = omega (arith, is, gap) in (
        (subst (λ (q : Place). LeadsTo f places n q.ptr) (sym at) h.0, omega (arith, is, some), (subst (λ b. LeadsTo f places b x.at.ptr) there to, rest, subst (λ b. LeadFrom f places b ms) on h.2)),
        omega (arith, is, gap),
      )
  put_from n (m ∷ ms) (suc k) left m' x d lt some at is gap rest to h =
      let on : n + (m.gap + gaps (take k ms) + left) ≡ n + m.gap + (gaps (take k ms) + left) = omega arith in
      let all = put_from (n + m.gap) ms k left m' x d (omega (arith, lt)) some at is gap rest (subst (λ b. LeadsTo f places b x.at.ptr) on to) h.2 in
      let same = all.1 in
      ((h.0, h.1, all.0), omega (arith, same))

  -- another group in the place of one with the same count
  pub same_groups : (n : ℕ) (gs : List Group) (k : ℕ) (g' d : Group) → k < length gs → g'.count ≡ (get_or gs k d).count → (IsGroupAt f places (n + counts (take k gs)) (get_or gs k d) → IsGroupAt f places (n + counts (take k gs)) g') → AreGroupsAt f places n gs → AreGroupsAt f places n (set gs k g')
  same_groups n [] k g' d lt same step h = absurd (omega (arith, lt))
  same_groups n (g ∷ gs) zero g' d lt same step h =
      let here : n + 0 ≡ n = omega arith in
      (subst (λ b. IsGroupAt f places b g') here (step (subst (λ b. IsGroupAt f places b g) (sym here) h.0)), subst (λ b. AreGroupsAt f places (n + b) gs) (sym same) h.1)
  same_groups n (g ∷ gs) (suc k) g' d lt same step h =
      let on : n + (g.count + counts (take k gs)) ≡ n + g.count + counts (take k gs) = omega arith in
      (h.0, same_groups (n + g.count) gs k g' d (omega (arith, lt)) same (λ was. subst (λ b. IsGroupAt f places b g') on (step (subst (λ b. IsGroupAt f places b (get_or gs k d)) (sym on) was))) h.1)

  -- marks cut in two
  pub cut_from : (n : ℕ) (ms : List Mark) (k : ℕ) → LeadFrom f places n ms → LeadFrom f places n (take k ms) × LeadFrom f places (n + gaps (take k ms)) (drop k ms) × (gaps ms ≡ gaps (take k ms) + gaps (drop k ms))
  cut_from n ms zero h = let here : n ≡ n + 0 = omega arith in (tt, subst (λ b. LeadFrom f places b ms) here h, omega arith)
  cut_from n [] (suc k) h = (tt, tt, omega arith)
  cut_from n (m ∷ ms) (suc k) h =
      let rest = cut_from (n + m.gap) ms k h.2 in
      let on : n + m.gap + gaps (take k ms) ≡ n + (m.gap + gaps (take k ms)) = omega arith in
      let sum = rest.2 in
      ((h.0, h.1, rest.0), subst (λ b. LeadFrom f places b (drop k ms)) on rest.1, omega (arith, sum))

  -- two groups in the place of one
  pub cut_groups : (n : ℕ) (gs : List Group) (k : ℕ) (g' more d : Group) → k < length gs
      → (IsGroupAt f places (n + counts (take k gs)) (get_or gs k d) → IsGroupAt f places (n + counts (take k gs)) g' × IsGroupAt f places (n + counts (take k gs) + g'.count) more × ((get_or gs k d).count ≡ g'.count + more.count))
      → AreGroupsAt f places n gs → AreGroupsAt f places n (insert (set gs k g') (suc k) more)
  cut_groups n [] k g' more d lt step h = absurd (omega (arith, lt))
  cut_groups n (g ∷ gs) zero g' more d lt step h =
      let here : n + 0 ≡ n = omega arith in
      let all = step (subst (λ b. IsGroupAt f places b g) (sym here) h.0) in
      let sum = all.2 in
      let on : n + g.count ≡ n + g'.count + more.count = omega (arith, sum) in
      (subst (λ b. IsGroupAt f places b g') here all.0, (subst (λ b. IsGroupAt f places (b + g'.count) more) here all.1, subst (λ b. AreGroupsAt f places b gs) on h.1))
  cut_groups n (g ∷ gs) (suc k) g' more d lt step h =
      let on : n + (g.count + counts (take k gs)) ≡ n + g.count + counts (take k gs) = omega arith in
      (h.0, cut_groups (n + g.count) gs k g' more d (omega (arith, lt)) (subst (λ b. IsGroupAt f places b (get_or gs k d) → IsGroupAt f places b g' × IsGroupAt f places (b + g'.count) more × ((get_or gs k d).count ≡ g'.count + more.count)) on step) h.1)

  -- the second was put in, or all marks were let go
  pub cut_or_none : (n : ℕ) (gs new : List Group) (k : ℕ) (g' more d : Group) → k < length gs → (new ≡ []) ⊎ (new ≡ insert (set gs k g') (k + 1) more)
      → (IsGroupAt f places (n + counts (take k gs)) (get_or gs k d) → IsGroupAt f places (n + counts (take k gs)) g' × IsGroupAt f places (n + counts (take k gs) + g'.count) more × ((get_or gs k d).count ≡ g'.count + more.count))
      → AreGroupsAt f places n gs → AreGroupsAt f places n new
  cut_or_none n gs new k g' more d lt (inl none) step h = subst (λ (l : List Group). AreGroupsAt f places n l) (sym none) tt
  cut_or_none n gs new k g' more d lt (inr is) step h =
      let on : suc k ≡ k + 1 = omega arith in
      subst (λ (l : List Group). AreGroupsAt f places n l) (sym is) (subst (λ j. AreGroupsAt f places n (insert (set gs k g') j more)) on (cut_groups n gs k g' more d lt step h))

-- ---- where a list's marks are

pub same_lead : (old new : Marks) (places : List Ptr) → IsSame old new → AreMarksSound new → Lead old places → Lead new places
same_lead old new places same sound lead = (
  sound,
  subst (λ (f : ℕ). AreGroupsAt f places new.start new.groups.items) (sym same.0)
      (subst (λ (s : ℕ). AreGroupsAt old.first places s new.groups.items) (sym same.1) (subst (λ (gs : List Group). AreGroupsAt old.first places old.start gs) (sym same.2) lead.1)),
)

-- another group in the place of that where they are
pub sound_set : (start near base : ℕ) (gs : List Group) (g : Group) → near ≤ length gs → base ≡ start + counts (take near gs) → (near ≤ length (set gs near g)) × (base ≡ start + counts (take near (set gs near g)))
sound_set start near base gs g le is = let long = long_set gs near g in (omega (arith, long, le), is ∙ ap (λ (l : List Group). start + counts l) (sym (take_set gs near g)))

-- ---- nodes and places

module _ {X : Type 0} where
  pub place_held : (cs : List (PlacedNode X)) (k : ℕ) (p : Ptr) → Holds cs k p → get_elem? (places_of cs) k ≡ just p
  place_held [] k p h = absurd (some-ne-none (p, h.0) (sym h.1))
  place_held (c ∷ cs) zero p h = ap (λ (d : PlacedNode X). just d.0) (some-injective c (p, h.0) h.1)
  place_held (c ∷ cs) (suc k) p h = place_held cs k p h

  pub held_place : (cs : List (PlacedNode X)) (k : ℕ) (p : Ptr) → get_elem? (places_of cs) k ≡ just p → Holds cs k p
  held_place [] k p e = absurd (some-ne-none p (sym e))
  held_place (c ∷ cs) zero p e = (c.1, ap (λ (q : Ptr). just (q, c.1)) (some-injective c.0 p e))
  held_place (c ∷ cs) (suc k) p e = held_place cs k p e

  pub many_places : (cs : List (PlacedNode X)) → length (places_of cs) ≡ length cs
  many_places cs = length-map cs (λ d. d.0)

  pub one_longer : (i : ℕ) (few many : List (PlacedNode X)) → HasOneMore i few many → length many ≡ length few + 1
  one_longer i few many h = let a = many_places few in let b = many_places many in let c = ap length h.1 in let d = long_more (places_of few) i h.0 in omega arith
