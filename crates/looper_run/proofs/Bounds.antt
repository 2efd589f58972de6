-- How many steps are left of a bound.
use Rattle.std.proofs.Common.{◌≡◌, ℕ, zero, suc, ◌+◌, true, false, Option, Some, None, subst, arith}
use Rattle.looper_run.specs.Loops.{HasBound, is_spent, one_less}

-- so many steps were made since this bound was the other
abbrev pub AreMade : Option ℕ → ℕ → Option ℕ → Type 0
AreMade None n None = Unit {0}
AreMade None n (Some left) = ⊥
AreMade (Some most) n None = ⊥
AreMade (Some most) n (Some left) = n + left ≡ most

pub made_none : (most : Option ℕ) → AreMade most 0 most
made_none None = tt
made_none (Some most) = omega arith

pub made_one : (most left : Option ℕ) (n : ℕ) → is_spent left ≡ false → AreMade most n left → AreMade most (suc n) (one_less left)
made_one None None n going made = tt
made_one None (Some left) n going made = absurd made
made_one (Some most) None n going made = absurd made
made_one (Some most) (Some zero) n going made = (let wrong : true ≡ false = going in cc)
made_one (Some most) (Some (suc left)) n going made = omega (arith, made)

pub made_all : (P : ℕ → Type 0) (most left : Option ℕ) (n : ℕ) → is_spent left ≡ true → AreMade most n left → P n → HasBound most P
made_all P most None n spent made p = (let wrong : false ≡ true = spent in cc)
made_all P None (Some left) n spent made p = absurd made
made_all P (Some most) (Some zero) n spent made p = (let all : n ≡ most = omega (arith, made) in subst P all p)
made_all P (Some most) (Some (suc left)) n spent made p = (let wrong : false ≡ true = spent in cc)
