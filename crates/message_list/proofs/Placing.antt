-- Where the nodes lie once one has come or gone.
use Rattle.std.proofs.Common.{◌≡◌, ℕ, zero, suc, List, [], ◌∷◌, ◌++◌, take, drop, set, refl, sym, ap, ◌∙◌, subst}
use mathlib.Core.Option.{some, some-injective, some-ne-none}
use lib.ListN.{get_elem?}
use denote.RawPtr.{Ptr}
use Rattle.message_list.specs.declared.node.Linked.{Linked}
use Rattle.message_list.specs.Links.{PlacedNode, places_of, HasOneMore}
use Rattle.message_list.proofs.Chained.{Without}

module _ {X : Type 0} where
  places_put : (cs : List (PlacedNode X)) (i : ℕ) (c : PlacedNode X) → places_of (take i cs ++ c ∷ drop i cs) ≡ take i (places_of cs) ++ c.0 ∷ drop i (places_of cs)
  places_put cs zero c = refl
  places_put [] (suc i) c = refl
  places_put (d ∷ ds) (suc i) c = ap (λ l. d.0 ∷ l) (places_put ds i c)

  places_set : (cs : List (PlacedNode X)) (k : ℕ) (q : Ptr) (y w : Linked X) → get_elem? cs k ≡ some (q, y) → places_of (set cs k (q, w)) ≡ places_of cs
  places_set [] k q y w e = refl
  places_set (c ∷ cs) zero q y w e = ap (λ (p : Ptr). p ∷ places_of cs) (sym (ap (λ (d : PlacedNode X). d.0) (some-injective c (q, y) e)))
  places_set (c ∷ cs) (suc k) q y w e = ap (λ l. c.0 ∷ l) (places_set cs k q y w e)

  places_take : (cs : List (PlacedNode X)) (i : ℕ) (p : Ptr) (b : Linked X) → get_elem? cs i ≡ some (p, b) → places_of cs ≡ take i (places_of (Without cs i)) ++ p ∷ drop i (places_of (Without cs i))
  places_take [] i p b e = absurd (some-ne-none (p, b) (sym e))
  places_take (c ∷ cs) zero p b e = ap (λ (q : Ptr). q ∷ places_of cs) (ap (λ (d : PlacedNode X). d.0) (some-injective c (p, b) e))
  places_take (c ∷ cs) (suc i) p b e = ap (λ l. c.0 ∷ l) (places_take cs i p b e)

  pub one_put : (i : ℕ) (cs old new : List (PlacedNode X)) (c : PlacedNode X) → new ≡ take i cs ++ c ∷ drop i cs → cs ≡ old → HasOneMore i old new
  one_put i cs old new c is same = subst (λ (l : List (PlacedNode X)). HasOneMore i l new) same (c.0, ap places_of is ∙ places_put cs i c)

  pub put_set : (i k : ℕ) (old new : List (PlacedNode X)) (q : Ptr) (y w : Linked X) → get_elem? new k ≡ some (q, y) → HasOneMore i old new → HasOneMore i old (set new k (q, w))
  put_set i k old new q y w e h = (h.0, places_set new k q y w e ∙ h.1)

  pub one_gone : (i : ℕ) (cs old new : List (PlacedNode X)) (p : Ptr) (b : Linked X) → get_elem? cs i ≡ some (p, b) → new ≡ Without cs i → cs ≡ old → HasOneMore i new old
  one_gone i cs old new p b e is same = subst (λ (l : List (PlacedNode X)). HasOneMore i new l) same (p, places_take cs i p b e ∙ ap (λ (l : List (PlacedNode X)). take i (places_of l) ++ p ∷ drop i (places_of l)) (sym is))

  pub gone_set : (i k : ℕ) (old new : List (PlacedNode X)) (q : Ptr) (y w : Linked X) → get_elem? new k ≡ some (q, y) → HasOneMore i new old → HasOneMore i (set new k (q, w)) old
  gone_set i k old new q y w e h = let same = places_set new k q y w e in (h.0, h.1 ∙ ap (λ (l : List Ptr). take i l ++ h.0 ∷ drop i l) (sym same))
