-- Shares put together.
use Rattle.std.proofs.Common.{◌≡◌, ℕ, ◌+◌, ◌*◌, ◌<◌, ◌≤◌, sym, ap, ◌∙◌, arith}
use Rattle.std.proofs.Math.Nat.{mul_comm, mul_assoc, mul_right_comm, mul_left_comm, le-mul_of_pos_right, add-mul}
use Rattle.message_pool.specs.declared.views.Share.{Share}
use Rattle.message_pool.specs.Shares.{no_share, half, plus, IsEntire}

same_share : (s t : Share) → s.parts ≡ t.parts → s.whole ≡ t.whole → s ≡ t
same_share s t p w = λ i. record { parts = p i; whole = w i }

pub nothing_more : (s : Share) → plus no_share s ≡ s
nothing_more s = same_share _ _ (omega arith) (omega arith)

pub plus_comm : (s t : Share) → plus s t ≡ plus t s
plus_comm s t = same_share _ _ (omega arith) (mul_comm s.whole t.whole)

pub plus_assoc : (s t u : Share) → plus (plus s t) u ≡ plus s (plus t u)
plus_assoc s t u = same_share _ _
    (omega (
      arith,
      add-mul (s.parts * t.whole) (t.parts * s.whole) u.whole,
      add-mul (t.parts * u.whole) (u.parts * t.whole) s.whole,
      mul_assoc s.parts t.whole u.whole,
      mul_right_comm t.parts s.whole u.whole,
      mul_left_comm u.parts s.whole t.whole,
      mul_comm s.whole (u.parts * t.whole),
    ))
    (mul_assoc s.whole t.whole u.whole)

pub plus_left : (s t u : Share) → plus s (plus t u) ≡ plus t (plus s u)
plus_left s t u = sym (plus_assoc s t u) ∙ ap (λ (x : Share). plus x u) (plus_comm s t) ∙ plus_assoc t s u

-- two halves are as much as the share
pub halves : (s t : Share) → IsEntire (plus s t) → IsEntire (plus (half s) (plus (half s) t))
halves s t e = by_numbers s.parts s.whole t.parts t.whole e
  where
    by_numbers : (p w a b : ℕ) → p * b + a * w ≡ w * b → p * (2 * w * b) + (p * b + a * (2 * w)) * (2 * w) ≡ 2 * w * (2 * w * b)
    by_numbers p w a b e = omega (arith, ap (λ n. 4 * w * n) e)

pub zero_factor : (p w : ℕ) → 0 < w → p * w ≡ 0 → p ≡ 0
zero_factor p w some e = let less : p ≤ p * w = le-mul_of_pos_right p some in omega arith

pub product_above : (a b : ℕ) → 0 < a → 0 < b → 0 < a * b
product_above a b some more = let less : a ≤ a * b = le-mul_of_pos_right a more in omega arith
