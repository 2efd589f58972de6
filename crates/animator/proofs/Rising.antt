-- Keys that rise, one after the other.
use Rattle.std.proofs.Common.{◌≡◌, ℕ, ◌+◌, ◌<◌, ◌≤◌, ◌==◌, Bool, true, false, List, length, get_or, drop, refl, sym, ◌∙◌, arith, nat_lt}
use Rattle.std.proofs.lemmas.Bool.Decides.{nat_tests}
use Rattle.std.proofs.lemmas.List.{drop_more, drop_all}
use Rattle.animator.specs.declared.keys.Key.{Key}
use Rattle.animator.specs.Plans.{rise_from}

-- behind a key that rises the others are left
pub rises : (place : ℕ) (ks : List Key) (i : ℕ) (d : Key) (b : Bool) → i < length ks → place < (get_or ks i d).at → rise_from place (drop i ks) ≡ b
    → rise_from (get_or ks i d).at (drop (i + 1) ks) ≡ b
rises place ks i d b lt up h =
    let test : nat_lt place (get_or ks i d).at ≡ true = passes place (get_or ks i d).at up in
    let one : rise_from place (drop i ks) ≡ rise_from (get_or ks i d).at (drop (i + 1) ks) = rw (drop_more ks i d lt, test) refl in
    sym one ∙ h
  where
    passes : (m n : ℕ) → m < n → nat_lt m n ≡ true
    passes m n lt = grind (arith, nat_tests)

-- a key that doesn't rise ends it
pub stops : (place : ℕ) (ks : List Key) (i : ℕ) (d : Key) (b : Bool) → i < length ks → (get_or ks i d).at ≤ place → rise_from place (drop i ks) ≡ b → false ≡ b
stops place ks i d b lt low h =
    let test : nat_lt place (get_or ks i d).at ≡ false = fails place (get_or ks i d).at low in
    let one : rise_from place (drop i ks) ≡ false = rw (drop_more ks i d lt, test) refl in
    sym one ∙ h
  where
    fails : (m n : ℕ) → n ≤ m → nat_lt m n ≡ false
    fails m n le = grind (arith, nat_tests)

-- behind the last key the place decides
pub ends : (place : ℕ) (ks : List Key) (i : ℕ) (b : Bool) → length ks ≤ i → rise_from place (drop i ks) ≡ b → (place == 1000) ≡ b
ends place ks i b le h = let one : rise_from place (drop i ks) ≡ (place == 1000) = rw (drop_all i ks le) refl in sym one ∙ h
