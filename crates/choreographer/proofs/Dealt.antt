-- Entries beside the numbers of the passes that recorded them.
use Rattle.std.proofs.Common.{◌≡◌, ◌≢◌, ℕ, ◌==◌, Bool, cond, eqb, Option, Some, None, List, [], ◌∷◌, ◌++◌, map, length, take, drop, get_or, refl, sym, ap, ◌∙◌, arith, eq-eqb, ne_eqb, append-nil, length-append}
use Rattle.std.specs.Prelude.{if◌then◌else◌}
use Rattle.std.specs.List.{cons_option}
use Rattle.std.proofs.lemmas.List.Elements.{filter_map-append}
use mathlib.Core.Logic.{dite}
use native.Mathlib.Decide.{ℕ_discrete}
use mathlib.Core.List.{IsPrefix}
use Rattle.std.proofs.lemmas.List.{nil_from_length}
use Rattle.frame_phases.specs.Parting.{dealt_to}
use Rattle.choreographer.specs.Turn.{count_of, all_by}

-- a list of one element
pub only_first : (ps : List ℕ) → length ps ≡ 1 → ps ≡ get_or ps 0 0 ∷ []
only_first [] e = absurd (omega (arith, e))
only_first (p ∷ []) e = refl
only_first (p ∷ q ∷ ps) e = absurd (omega (arith, e))

-- the first of what a map gives
pub map-take_one : {X Y : Type 0} (f : X → Y) (xs : List X) → take 1 (map f xs) ≡ map f (take 1 xs)
map-take_one f [] = refl
map-take_one f (x ∷ xs) = refl

pub map-drop_one : {X Y : Type 0} (f : X → Y) (xs : List X) → drop 1 (map f xs) ≡ map f (drop 1 xs)
map-drop_one f [] = refl
map-drop_one f (x ∷ xs) = refl

module _ {X : Type 0} where
  pub all_by-elements : (n : ℕ) (xs : List X) → map (λ (d : ℕ × X). d.1) (all_by n xs) ≡ xs
  all_by-elements n [] = refl
  all_by-elements n (x ∷ xs) = ap (λ l. x ∷ l) (all_by-elements n xs)

  abbrev here : ℕ → ℕ → X → Option X
  here k n x = if n == k then Some x else None

  pub dealt_own : (n : ℕ) (xs : List X) → dealt_to n (all_by n xs) ≡ xs
  dealt_own n [] = refl
  dealt_own n (x ∷ xs) =
      let first : here n n x ≡ Some x = ap (λ (b : Bool). if b then Some x else None) (eq-eqb n n refl) in
      ap (λ o. cons_option o (dealt_to n (all_by n xs))) first ∙ ap (λ l. x ∷ l) (dealt_own n xs)

  pub dealt_else : (k n : ℕ) (xs : List X) → n ≢ k → dealt_to k (all_by n xs) ≡ []
  dealt_else k n [] apart = refl
  dealt_else k n (x ∷ xs) apart =
      let first : here k n x ≡ None = ap (λ (b : Bool). if b then Some x else None) (ne_eqb n k apart) in
      ap (λ o. cons_option o (dealt_to k (all_by n xs))) first ∙ dealt_else k n xs apart

  pub dealt_more : (k : ℕ) (xs ys : List (ℕ × X)) → dealt_to k (xs ++ ys) ≡ dealt_to k xs ++ dealt_to k ys
  dealt_more k xs ys = filter_map-append (λ (d : ℕ × X). if d.0 == k then Some d.1 else None) xs ys

  -- what one pass records is dealt to it
  pub dealt_behind : (n : ℕ) (made : List (ℕ × X)) (more : List X) → dealt_to n (made ++ all_by n more) ≡ dealt_to n made ++ more
  dealt_behind n made more = dealt_more n made (all_by n more) ∙ ap (λ l. dealt_to n made ++ l) (dealt_own n more)

  -- and not to another one
  pub dealt_same : (k n : ℕ) (made : List (ℕ × X)) (more : List X) → n ≢ k → dealt_to k (made ++ all_by n more) ≡ dealt_to k made
  dealt_same k n made more apart =
      dealt_more k made (all_by n more) ∙ (ap (λ l. dealt_to k made ++ l) (dealt_else k n more apart) ∙ append-nil (dealt_to k made))

  -- between two lists of which the same is dealt to a pass no more is
  dealt_within : (n : ℕ) (xs ys zs : List (ℕ × X)) → IsPrefix xs ys → IsPrefix ys zs → dealt_to n xs ≡ dealt_to n zs → dealt_to n ys ≡ dealt_to n xs
  dealt_within n xs ys zs p q same =
      let one : dealt_to n ys ≡ dealt_to n xs ++ dealt_to n p.0 = ap (dealt_to n) (sym p.1) ∙ dealt_more n xs p.0 in
      let two : dealt_to n zs ≡ dealt_to n ys ++ dealt_to n q.0 = ap (dealt_to n) (sym q.1) ∙ dealt_more n ys q.0 in
      let a = ap length one in
      let b = ap length two in
      let c = ap length same in
      let d = length-append (dealt_to n xs) (dealt_to n p.0) in
      let e = length-append (dealt_to n ys) (dealt_to n q.0) in
      one ∙ (ap (λ l. dealt_to n xs ++ l) (nil_from_length (dealt_to n p.0) (omega (arith, a, b, c, d, e))) ∙ append-nil (dealt_to n xs))

  pub parts_within : (ns : List ℕ) (xs ys zs : List (ℕ × X)) → IsPrefix xs ys → IsPrefix ys zs → map (λ n. dealt_to n xs) ns ≡ map (λ n. dealt_to n zs) ns
      → map (λ n. dealt_to n ys) ns ≡ map (λ n. dealt_to n xs) ns
  parts_within [] xs ys zs p q same = refl
  parts_within (n ∷ ns) xs ys zs p q same =
      let first : dealt_to n xs ≡ dealt_to n zs = ap (λ l. get_or l 0 []) same in
      let rest = parts_within ns xs ys zs p q (ap (drop 1) same) in
      λ i. dealt_within n xs ys zs p q first i ∷ rest i

  -- nor to any of these, where its number does not stand among theirs
  pub dealt_same_all : (n : ℕ) (ps : List ℕ) (made : List (ℕ × X)) (more : List X) → count_of n ps ≡ 0 → map (λ k. dealt_to k (made ++ all_by n more)) ps ≡ map (λ k. dealt_to k made) ps
  dealt_same_all n [] made more none = refl
  dealt_same_all n (p ∷ ps) made more none = dite (ℕ_discrete p n)
      (λ is. let one : cond {A = ℕ} (eqb p n) 1 0 ≡ 1 = ap (λ b. cond {A = ℕ} b 1 0) (eq-eqb p n is) in absurd (omega (arith, one, none)))
      (λ apart.
      let zero_here : cond {A = ℕ} (eqb p n) 1 0 ≡ 0 = ap (λ b. cond {A = ℕ} b 1 0) (ne_eqb p n apart) in
      λ i. dealt_same p n made more (λ e. apart (sym e)) i ∷ dealt_same_all n ps made more (omega (arith, zero_here, none)) i)
