-- How many bits of a word are set, after one bit has changed.
use Rattle.std.proofs.Common.{◌≡◌, ℕ, zero, suc, ◌+◌, ◌/◌, ◌%◌, ◌^◌, ◌<◌, ◌≢◌, sym, ap, ◌∙◌, arith, count_ones}
use lib.Count.{ones_step}
use Rattle.std.specs.Int.{bit_at}
use Rattle.std.proofs.lemmas.Nat.Bits.{bit_at_lowest, bit_at-suc}
use native.Mathlib.Nat.{pow-suc}

-- numbers of k bits that have the same bits are the same
same_bits : (k n m : ℕ) → n < 2 ^ k → m < 2 ^ k → ((j : ℕ) → j < k → bit_at m j ≡ bit_at n j) → m ≡ n
same_bits zero n m a b same = omega arith
same_bits (suc k) n m a b same =
    let low : m % 2 ≡ n % 2 = sym (bit_at_lowest m) ∙ same 0 (omega arith) ∙ bit_at_lowest n in
    let high : m / 2 ≡ n / 2 = same_bits k (n / 2) (m / 2) (omega (arith, pow-suc 2 k)) (omega (arith, pow-suc 2 k))
    (λ j near. sym (bit_at-suc m j) ∙ same (suc j) (omega arith) ∙ bit_at-suc n j) in
    omega arith

-- where only the bit i differs, the counts differ by it
pub one_bit : (k i n m : ℕ) → i < k → n < 2 ^ k → m < 2 ^ k → ((j : ℕ) → j < k → j ≢ i → bit_at m j ≡ bit_at n j) → count_ones m + bit_at n i ≡ count_ones n + bit_at m i
one_bit zero i n m near a b same = absurd (omega arith)
one_bit (suc k) zero n m near a b same =
    let high : m / 2 ≡ n / 2 = same_bits k (n / 2) (m / 2) (omega (arith, pow-suc 2 k)) (omega (arith, pow-suc 2 k))
    (λ j close. sym (bit_at-suc m j) ∙ same (suc j) (omega arith) (λ e. omega arith) ∙ bit_at-suc n j) in
    omega (arith, ones_step n, ones_step m, ap count_ones high, bit_at_lowest n, bit_at_lowest m)
one_bit (suc k) (suc i) n m near a b same =
    let low : m % 2 ≡ n % 2 = sym (bit_at_lowest m) ∙ same 0 (omega arith) (λ e. omega arith) ∙ bit_at_lowest n in
    let rest = one_bit k i (n / 2) (m / 2) (omega arith) (omega (arith, pow-suc 2 k)) (omega (arith, pow-suc 2 k))
    (λ j close apart. sym (bit_at-suc m j) ∙ same (suc j) (omega arith) (λ e. apart (omega arith)) ∙ bit_at-suc n j) in
    omega (arith, rest, ones_step n, ones_step m, bit_at-suc n i, bit_at-suc m i)
