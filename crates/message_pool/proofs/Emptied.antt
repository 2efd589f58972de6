-- Places that are emptied one after another.
use Rattle.std.proofs.Common.{◌≡◌, ℕ, zero, suc, ◌+◌, ◌<◌, ◌≤◌, ◌⊎◌, inl, inr, List, [], ◌∷◌, Bool, true, false, refl, sym, ◌∙◌, subst, arith, get_or, set}
use Rattle.std.specs.Mem.Slots.Ownership.{Filled}
use Rattle.std.proofs.lemmas.List.{get_or-set_other}
use Rattle.std.proofs.lemmas.Bool.{cases_lt}

emptied_at : (l : List Bool) (i : ℕ) → get_or (set l i false) i false ≡ false
emptied_at [] i = refl
emptied_at (x ∷ l) zero = refl
emptied_at (x ∷ l) (suc i) = emptied_at l i

-- one place more is empty, and those behind it are full
pub one_emptied : (before after : List Bool) (i n m : ℕ) → after ≡ set before i false → m ≡ n → Filled before i n → ((k : ℕ) → k < i → get_or before k false ≡ false)
    → Filled after (i + 1) m × ((k : ℕ) → k < i + 1 → get_or after k false ≡ false)
one_emptied before after i n m e same full gone = (
  λ k low high. subst (λ l. get_or l k false ≡ true) (sym e) (get_or-set_other before i k false false (omega (arith, low)) ∙ full k (omega (arith, low)) (omega (arith, same, high))),
  λ k near. subst (λ l. get_or l k false ≡ false) (sym e) (by_order k near (cases_lt k i)),
)
  where
    by_order : (k : ℕ) → k < i + 1 → (k < i) ⊎ (i ≤ k) → get_or (set before i false) k false ≡ false
    by_order k near (inl low) = get_or-set_other before i k false false (omega (arith, low)) ∙ gone k low
    by_order k near (inr high) = let at : k ≡ i = omega (arith, near, high) in subst (λ n. get_or (set before i false) n false ≡ false) (sym at) (emptied_at before i)
