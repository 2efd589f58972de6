-- The distances of frames.
use Rattle.std.proofs.Common.{◌≡◌, ℕ, ◌-◌, ◌<◌, ◌≤◌, nat_lt, true, false, [], ◌∷◌, Option, ap, sym, arith, if◌then◌else◌}
use Rattle.std.proofs.lemmas.Bool.Decides.{nat_tests}
use Rattle.std.specs.List.{fold}
use Rattle.run_picture.specs.Period.{frame_distance, lesser}

is_behind : (t u : ℕ) → t < u → nat_lt t u ≡ true
is_behind t u lt = grind (arith, nat_tests)

is_not_behind : (t u : ℕ) → u ≤ t → nat_lt t u ≡ false
is_not_behind t u lt = grind (arith, nat_tests)

-- a time behind the one before it has one distance more
pub one_more : (least : Option ℕ) (t u : ℕ) → t < u → lesser least (u - t) ≡ fold lesser least (frame_distance t u)
one_more least t u lt = sym (ap (λ b. fold lesser least (if b then (u - t) ∷ [] else [])) (is_behind t u lt))

-- another one has none
pub none_more : (least : Option ℕ) (t u : ℕ) → u ≤ t → least ≡ fold lesser least (frame_distance t u)
none_more least t u lt = sym (ap (λ b. fold lesser least (if b then (u - t) ∷ [] else [])) (is_not_behind t u lt))
