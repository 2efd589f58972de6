-- Whether asks are parted among those who ask for them, and in turn, by a test that computes.
use Rattle.std.proofs.Common.{◌≡◌, ◌≤◌, ◌⊎◌, inl, inr, ℕ, zero, suc, Bool, true, false, List, [], ◌∷◌, ◌++◌, Option, Some, None, refl, sym, ap, ◌∙◌, subst, arith, get_or, eq-eqb, ne_eqb}
use Rattle.std.specs.Prelude.{◌==◌, ◌&&◌, ◌||◌, nat_le, map, if◌then◌else◌}
use Rattle.std.proofs.Math.Bool.{or-true}
use Rattle.std.specs.List.{list_all, list_any, cons_option}
use Rattle.std.proofs.lemmas.Bool.{and_parts, and_from, or_cases, eqb-true, leb-true, le-leb}
use mathlib.Core.Logic.{dite}
use native.Mathlib.Decide.{ℕ_discrete}
use Rattle.frame_phases.specs.Parting.{dealt_to}
use Rattle.run_model.specs.FrameRecords.{FrameAsk, Posts, Removes, Begins, Takes, as_told, TimedAsk, timed_as_told, AreAskedInTurn}
use Rattle.run_model.specs.AskedSoFar.{Rise, asks_of, timed_of}
use Rattle.run_model.proofs.AskedInTurn.{rising_sorted, sorted_rising}

abbrev pub same_token : Option ℕ → Option ℕ → Bool
same_token None None = true
same_token None (Some n) = false
same_token (Some n) None = false
same_token (Some n) (Some m) = n == m

abbrev pub same_ask : FrameAsk → FrameAsk → Bool
same_ask (Posts p d i t) (Posts q e j u) = p == q && d == e && i == j && same_token t u
same_ask (Posts p d i t) _ = false
same_ask (Removes p i t) (Removes q j u) = p == q && i == j && same_token t u
same_ask (Removes p i t) _ = false
same_ask (Begins n) (Begins m) = n == m
same_ask (Begins n) _ = false
same_ask (Takes p n) (Takes q m) = p == q && n == m
same_ask (Takes p n) _ = false

token_same : (t u : Option ℕ) → same_token t u ≡ true → t ≡ u
token_same None None h = refl
token_same None (Some n) h = cc
token_same (Some n) None h = cc
token_same (Some n) (Some m) h = ap (λ (k : ℕ). Some k) (eqb-true n m h)

ask_same : (a b : FrameAsk) → same_ask a b ≡ true → a ≡ b
ask_same (Posts p d i t) (Posts q e j u) h =
    let three = and_parts (p == q && d == e && i == j) (same_token t u) h in
    let two = and_parts (p == q && d == e) (i == j) three.0 in
    let one = and_parts (p == q) (d == e) two.0 in
    λ k. Posts (eqb-true p q one.0 k) (eqb-true d e one.1 k) (eqb-true i j two.1 k) (token_same t u three.1 k)
ask_same (Posts p d i t) (Removes q j u) h = cc
ask_same (Posts p d i t) (Begins m) h = cc
ask_same (Posts p d i t) (Takes q m) h = cc
ask_same (Removes p i t) (Posts q e j u) h = cc
ask_same (Removes p i t) (Removes q j u) h =
    let two = and_parts (p == q && i == j) (same_token t u) h in
    let one = and_parts (p == q) (i == j) two.0 in
    λ k. Removes (eqb-true p q one.0 k) (eqb-true i j one.1 k) (token_same t u two.1 k)
ask_same (Removes p i t) (Begins m) h = cc
ask_same (Removes p i t) (Takes q m) h = cc
ask_same (Begins n) (Posts q e j u) h = cc
ask_same (Begins n) (Removes q j u) h = cc
ask_same (Begins n) (Begins m) h = ap Begins (eqb-true n m h)
ask_same (Begins n) (Takes q m) h = cc
ask_same (Takes p n) (Posts q e j u) h = cc
ask_same (Takes p n) (Removes q j u) h = cc
ask_same (Takes p n) (Begins m) h = cc
ask_same (Takes p n) (Takes q m) h = let both = and_parts (p == q) (n == m) h in λ k. Takes (eqb-true p q both.0 k) (eqb-true n m both.1 k)

same_self : (a : FrameAsk) → same_ask a a ≡ true
same_self (Posts p d i None) = rw (eq-eqb p p refl, eq-eqb d d refl, eq-eqb i i refl) refl
same_self (Posts p d i (Some t)) = rw (eq-eqb p p refl, eq-eqb d d refl, eq-eqb i i refl, eq-eqb t t refl) refl
same_self (Removes p i None) = rw (eq-eqb p p refl, eq-eqb i i refl) refl
same_self (Removes p i (Some t)) = rw (eq-eqb p p refl, eq-eqb i i refl, eq-eqb t t refl) refl
same_self (Begins n) = eq-eqb n n refl
same_self (Takes p n) = rw (eq-eqb p p refl, eq-eqb n n refl) refl

-- an ask of a sender that is dealt, and what is left of the parts
pub record Way : Type 0 where
  pub taken : TimedAsk
  pub left : List (List TimedAsk)

-- the ask may be this one, made no earlier than the last
abbrev may_be : ℕ → FrameAsk → TimedAsk → Bool
may_be last x a = same_ask x a.ask && nat_le last a.when

-- how it may be dealt to one of the parts that begins with it: all ways
abbrev dealt_first : ℕ → FrameAsk → List TimedAsk → List (List TimedAsk) → List Way
dealt_first last x [] ps = []
dealt_first last x (a ∷ p) ps = if may_be last x a then record { taken = a; left = p ∷ ps } ∷ [] else []

abbrev beside : List TimedAsk → Way → Way
beside p w = record { taken = w.taken; left = p ∷ w.left }

abbrev ways : ℕ → FrameAsk → List (List TimedAsk) → List Way
ways last x [] = []
ways last x (p ∷ ps) = dealt_first last x p ps ++ map (beside p) (ways last x ps)

abbrev is_empty : List TimedAsk → Bool
is_empty [] = true
is_empty (a ∷ p) = false

-- the asks are parted into these, and none is made earlier than one before it, nor than this time
abbrev pub can_part : ℕ → List FrameAsk → List (List TimedAsk) → Bool
can_part last [] ps = list_all is_empty ps
can_part last (x ∷ xs) ps = list_any (λ (w : Way). can_part w.taken.when xs w.left) (ways last x ps)

-- the part of a number
abbrev part : {X : Type 0} → List (List X) → ℕ → List X
part ps k = get_or ps k []

all_empty : (ps : List (List TimedAsk)) → list_all is_empty ps ≡ true → (k : ℕ) → [] ≡ part ps k
all_empty [] h k = refl
all_empty ([] ∷ ps) h zero = refl
all_empty ([] ∷ ps) h (suc k) = all_empty ps h k
all_empty ((a ∷ p) ∷ ps) h k = cc

empty_all : (ps : List (List TimedAsk)) → ((k : ℕ) → [] ≡ part ps k) → list_all is_empty ps ≡ true
empty_all [] none = refl
empty_all ([] ∷ ps) none = empty_all ps (λ k. none (suc k))
empty_all ((a ∷ p) ∷ ps) none = let wrong : [] ≡ a ∷ p = none 0 in cc (wrong)

-- whether two numbers are the same, by recursion
abbrev is_same : ℕ → ℕ → Bool
is_same zero zero = true
is_same zero (suc k) = false
is_same (suc n) zero = false
is_same (suc n) (suc k) = is_same n k

is_same_self : (n : ℕ) → is_same n n ≡ true
is_same_self zero = refl
is_same_self (suc n) = is_same_self n

is_same_apart : (n k : ℕ) → (n ≡ k → ⊥) → is_same n k ≡ false
is_same_apart zero zero apart = absurd (apart refl)
is_same_apart zero (suc k) apart = refl
is_same_apart (suc n) zero apart = refl
is_same_apart (suc n) (suc k) apart = is_same_apart n k (λ e. apart (ap suc e))

same_is : (n k : ℕ) → (n == k) ≡ is_same n k
same_is n k = dite (ℕ_discrete n k)
    (λ e. eq-eqb n k e ∙ sym (subst (λ (m : ℕ). is_same n m ≡ true) e (is_same_self n)))
    (λ apart. ne_eqb n k apart ∙ sym (is_same_apart n k apart))

-- what one more ask adds to what is dealt
dealt_more : (k n : ℕ) (x : TimedAsk) (dealt : List (ℕ × TimedAsk)) → dealt_to k ((n, x) ∷ dealt) ≡ (if is_same n k then x ∷ dealt_to k dealt else dealt_to k dealt)
dealt_more k n x dealt = by_case (n == k) ∙ ap (λ (b : Bool). if b then x ∷ dealt_to k dealt else dealt_to k dealt) (same_is n k)
  where
    by_case : (b : Bool) → cons_option (if b then Some x else None) (dealt_to k dealt) ≡ (if b then x ∷ dealt_to k dealt else dealt_to k dealt)
    by_case true = refl
    by_case false = refl

-- the parts before an ask is dealt to the part of this number, and behind that
abbrev IsDealt : TimedAsk → ℕ → List (List TimedAsk) → List (List TimedAsk) → Type 0
IsDealt x n ps left = (k : ℕ) → (if is_same n k then x ∷ part left k else part left k) ≡ part ps k

first_dealt : (a : TimedAsk) (p : List TimedAsk) (ps : List (List TimedAsk)) → IsDealt a 0 ((a ∷ p) ∷ ps) (p ∷ ps)
first_dealt a p ps zero = refl
first_dealt a p ps (suc k) = refl

later_dealt : (x : TimedAsk) (n : ℕ) (p : List TimedAsk) (ps left : List (List TimedAsk)) → IsDealt x n ps left → IsDealt x (suc n) (p ∷ ps) (p ∷ left)
later_dealt x n p ps left dealt zero = refl
later_dealt x n p ps left dealt (suc k) = dealt k

any_both : (test : Way → Bool) (xs ys : List Way) → list_any test (xs ++ ys) ≡ true → (list_any test xs ≡ true) ⊎ (list_any test ys ≡ true)
any_both test [] ys h = inr h
any_both test (x ∷ xs) ys h = elim (or_cases (test x) (list_any test (xs ++ ys)) h) [
  | inl first ↦ inl (rw first refl)
  | inr rest ↦ elim (any_both test xs ys rest) [ inl more ↦ inl (rw (more, or-true (test x)) refl) | inr others ↦ inr others ]
]

any_mapped : (test : Way → Bool) (p : List TimedAsk) (ws : List Way) → list_any test (map (beside p) ws) ≡ list_any (λ w. test (beside p w)) ws
any_mapped test p [] = refl
any_mapped test p (w ∷ ws) = ap (λ b. test (beside p w) || b) (any_mapped test p ws)

-- one of the ways passes: the part that begins with the ask, and what is left
pub record IsWay (last : ℕ) (x : FrameAsk) (ps : List (List TimedAsk)) (test : Way → Bool) : Type 0 where
  pub number : ℕ
  pub way : Way
  pub dealt : IsDealt way.taken number ps way.left
  pub asks : way.taken.ask ≡ x
  pub later : last ≤ way.taken.when
  pub passes : test way ≡ true

later_way : (last : ℕ) (x : FrameAsk) (p : List TimedAsk) (ps : List (List TimedAsk)) (test : Way → Bool) → IsWay last x ps (λ w. test (beside p w)) → IsWay last x (p ∷ ps) test
later_way last x p ps test w = record {
  number = suc w.number;
  way = beside p w.way;
  dealt = later_dealt w.way.taken w.number p ps w.way.left w.dealt;
  asks = w.asks;
  later = w.later;
  passes = w.passes;
}

way_of : (last : ℕ) (x : FrameAsk) (ps : List (List TimedAsk)) (test : Way → Bool) → list_any test (ways last x ps) ≡ true → IsWay last x ps test
way_of last x [] test h = cc
way_of last x ([] ∷ ps) test h = later_way last x [] ps test (way_of last x ps (λ w. test (beside [] w)) (sym (any_mapped test [] (ways last x ps)) ∙ h))
way_of last x ((a ∷ p) ∷ ps) test h = elim (any_both test (dealt_first last x (a ∷ p) ps) (map (beside (a ∷ p)) (ways last x ps)) h) [
  | inl first ↦ by_case (may_be last x a) refl first
  | inr rest ↦ later_way last x (a ∷ p) ps test (way_of last x ps (λ w. test (beside (a ∷ p) w)) (sym (any_mapped test (a ∷ p) (ways last x ps)) ∙ rest))
]
  where
    by_case : (b : Bool) → may_be last x a ≡ b → list_any test (if b then record { taken = a; left = p ∷ ps } ∷ [] else []) ≡ true → IsWay last x ((a ∷ p) ∷ ps) test
    by_case true may passes =
        let both = and_parts (same_ask x a.ask) (nat_le last a.when) may in
        let now : test (record { taken = a; left = p ∷ ps }) ≡ true = elim (or_cases (test (record { taken = a; left = p ∷ ps })) false passes) [ inl is ↦ is | inr never ↦ cc (never) ] in
        record { number = 0; way = record { taken = a; left = p ∷ ps }; dealt = first_dealt a p ps; asks = sym (ask_same x a.ask both.0); later = leb-true last a.when both.1; passes = now }
    by_case false other none = cc (none)

-- the asks, dealt to the parts in turn, from this time on
pub record AreDealt (last : ℕ) (xs : List FrameAsk) (ps : List (List TimedAsk)) : Type 0 where
  pub dealt : List (ℕ × TimedAsk)
  pub asks_are : asks_of (timed_of dealt) ≡ xs
  pub parts : (k : ℕ) → dealt_to k dealt ≡ part ps k
  pub rise : Rise last (timed_of dealt)

-- where the test passes, they are dealt so
parted : (last : ℕ) (xs : List FrameAsk) (ps : List (List TimedAsk)) → can_part last xs ps ≡ true → AreDealt last xs ps
parted last [] ps h = record { dealt = []; asks_are = refl; parts = all_empty ps h; rise = tt }
parted last (x ∷ xs) ps h =
    let w = way_of last x ps (λ (w : Way). can_part w.taken.when xs w.left) h in
    let taken = w.way.taken in
    let rest = parted taken.when xs w.way.left w.passes in
    record {
      dealt = (w.number, taken) ∷ rest.dealt;
      asks_are = λ i. w.asks i ∷ rest.asks_are i;
      parts = λ k. dealt_more k w.number taken rest.dealt ∙ (ap (λ (l : List TimedAsk). if is_same w.number k then taken ∷ l else l) (rest.parts k) ∙ w.dealt k);
      rise = (w.later, rest.rise);
    }

-- and where the ask is the first of a part, one of the ways passes if what is left does
one_way : (last : ℕ) (y : TimedAsk) (ps : List (List TimedAsk)) (test : Way → Bool) (n : ℕ) (rest : List TimedAsk) → last ≤ y.when → y ∷ rest ≡ part ps n
    → ((left : List (List TimedAsk)) → ((k : ℕ) → (if is_same n k then rest else part ps k) ≡ part left k) → test (record { taken = y; left = left }) ≡ true)
    → list_any test (ways last y.ask ps) ≡ true
one_way last y [] test n rest le is passes = cc (is)
one_way last y ([] ∷ ps) test zero rest le is passes = cc (is)
one_way last y ((a ∷ p) ∷ ps) test zero rest le is passes =
    let first : y ≡ a = ap (first_or y) is in
    let others : rest ≡ p = ap behind_first is in
    let may : may_be last y.ask a ≡ true = subst (λ (b : TimedAsk). may_be last y.ask b ≡ true) first (and_from (same_ask y.ask y.ask) (nat_le last y.when) (same_self y.ask) (le-leb last y.when le)) in
    let now : test (record { taken = a; left = p ∷ ps }) ≡ true = subst (λ (b : TimedAsk). test (record { taken = b; left = p ∷ ps }) ≡ true) first (passes (p ∷ ps) (λ k. left_is k others)) in
    rw (may, now) refl
  where
    first_or : TimedAsk → List TimedAsk → TimedAsk
    first_or d [] = d
    first_or d (b ∷ bs) = b

    behind_first : List TimedAsk → List TimedAsk
    behind_first [] = []
    behind_first (b ∷ bs) = bs

    left_is : (k : ℕ) → rest ≡ p → (if is_same zero k then rest else part ((a ∷ p) ∷ ps) k) ≡ part (p ∷ ps) k
    left_is zero e = e
    left_is (suc k) e = refl
one_way last y (p ∷ ps) test (suc n) rest le is passes =
    let later = one_way last y ps (λ w. test (beside p w)) n rest le is (λ left are. passes (p ∷ left) (λ k. left_is left are k)) in
    any_behind (dealt_first last y.ask p ps) (map (beside p) (ways last y.ask ps)) (any_mapped test p (ways last y.ask ps) ∙ later)
  where
    left_is : (left : List (List TimedAsk)) → ((k : ℕ) → (if is_same n k then rest else part ps k) ≡ part left k) → (k : ℕ) → (if is_same (suc n) k then rest else part (p ∷ ps) k) ≡ part (p ∷ left) k
    left_is left are zero = refl
    left_is left are (suc k) = are k

    any_behind : (us vs : List Way) → list_any test vs ≡ true → list_any test (us ++ vs) ≡ true
    any_behind [] vs h = h
    any_behind (u ∷ us) vs h = rw (any_behind us vs h, or-true (test u)) refl

-- where they are dealt so, the test passes
part_able : (last : ℕ) (dealt : List (ℕ × TimedAsk)) (ps : List (List TimedAsk)) → ((k : ℕ) → dealt_to k dealt ≡ part ps k) → Rise last (timed_of dealt)
    → can_part last (asks_of (timed_of dealt)) ps ≡ true
part_able last [] ps each rise = empty_all ps each
part_able last ((n, y) ∷ dealt) ps each rise =
    let mine : y ∷ dealt_to n dealt ≡ part ps n = sym (own_of (is_same n n) (is_same_self n)) ∙ (sym (dealt_more n n y dealt) ∙ each n) in
    one_way last y ps (λ (w : Way). can_part w.taken.when (asks_of (timed_of dealt)) w.left) n (dealt_to n dealt) rise.0 mine
    (λ left are. part_able y.when dealt left (λ k. left_of k ∙ are k) rise.1)
  where
    own_of : (b : Bool) → b ≡ true → (if b then y ∷ dealt_to n dealt else dealt_to n dealt) ≡ y ∷ dealt_to n dealt
    own_of true e = refl
    own_of false e = cc (e)

    left_of : (k : ℕ) → dealt_to k dealt ≡ (if is_same n k then dealt_to n dealt else part ps k)
    left_of k = dite (ℕ_discrete n k)
        (λ same. let yes : is_same n k ≡ true = subst (λ (m : ℕ). is_same n m ≡ true) same (is_same_self n) in rw yes (ap (λ (m : ℕ). dealt_to m dealt) (sym same)))
        (λ apart. let no : is_same n k ≡ false = is_same_apart n k apart in rw no (ap (λ (b : Bool). if b then y ∷ dealt_to k dealt else dealt_to k dealt) (sym no) ∙ (sym (dealt_more k n y dealt) ∙ each k)))

-- as they are told in lockstep
abbrev told : List FrameAsk → List FrameAsk
told asks = map (as_told true) asks

abbrev all_told : List (List TimedAsk) → List (List TimedAsk)
all_told by_sender = map (map (timed_as_told true)) by_sender

abbrev pub can_ask_in_turn : List FrameAsk → List (List TimedAsk) → Bool
can_ask_in_turn asks by_sender = can_part 0 (told asks) (all_told by_sender)

pub asks_are_in_turn : (asks : List FrameAsk) (by_sender : List (List TimedAsk)) → can_ask_in_turn asks by_sender ≡ true → AreAskedInTurn true asks by_sender
asks_are_in_turn asks by_sender h =
    let d = parted 0 (told asks) (all_told by_sender) h in
    record { timed = timed_of d.dealt; asks_are = d.asks_are; in_turn = rising_sorted 0 (timed_of d.dealt) d.rise; parted = (d.dealt, refl, d.parts) }

pub in_turn_can_ask : (asks : List FrameAsk) (by_sender : List (List TimedAsk)) → AreAskedInTurn true asks by_sender → can_ask_in_turn asks by_sender ≡ true
in_turn_can_ask asks by_sender h =
    let rise : Rise 0 h.timed = sorted_rising 0 h.timed h.in_turn (λ d some. omega arith) in
    let passes = part_able 0 h.parted.0 (all_told by_sender) h.parted.2 (subst (Rise 0) (sym h.parted.1) rise) in
    subst (λ (xs : List FrameAsk). can_part 0 xs (all_told by_sender) ≡ true) (ap asks_of h.parted.1 ∙ h.asks_are) passes
