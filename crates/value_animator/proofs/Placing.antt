-- Where a key may stand.
use Rattle.std.proofs.Common.{◌≡◌, ℕ, zero, suc, ◌+◌, ◌-◌, List, [], ◌∷◌, length, ap, arith, ◌∙◌, nat_lt, slice_get, Some}
use Rattle.animator.specs.declared.keys.Key.{Key}
use Rattle.value_animator.specs.Reading.{last_place, may_be_placed}

got_last : (ks : List Key) (i : ℕ) (k : Key) → i + 1 ≡ length ks → Some k ≡ slice_get ks i → k.at ≡ last_place ks
got_last [] i k n e = absurd (omega arith)
got_last (x ∷ []) zero k n e = let same : k ≡ x = cc in ap (λ y. y.at) same
got_last (x ∷ []) (suc i) k n e = absurd (omega arith)
got_last (x ∷ y ∷ ks) zero k n e = absurd (omega arith)
got_last (x ∷ y ∷ ks) (suc i) k n e = got_last (y ∷ ks) i k (omega arith) e

pub placed_behind : (ks : List Key) (k : Key) (n place : ℕ) → Some k ≡ slice_get ks (length ks - 1) → n ≡ k.at → nat_lt n place ≡ may_be_placed ks place
placed_behind [] k n place e is = absurd cc
placed_behind (x ∷ xs) k n place e is =
    ap (λ m. nat_lt m place) (is ∙ got_last (x ∷ xs) (length (x ∷ xs) - 1) k (omega arith) e)
