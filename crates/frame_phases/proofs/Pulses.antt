-- The next pulse is a pulse, and a later one.
use Rattle.std.proofs.Common.{◌≡◌, ℕ, ◌<◌, ◌≤◌, ◌+◌, ◌-◌, ◌*◌, ◌/◌, ◌%◌, ◌^◌, true, ◌⊎◌, inl, inr, arith, refl}
use Rattle.std.specs.Prelude.{min, ◌==◌, nat_lt}
use Rattle.std.proofs.Math.Nat.{mod-lt, mul-mod_left, add-mul, min-eq_left, min-eq_right}
use Rattle.std.proofs.Math.Bool.{or-true}
use Rattle.std.proofs.lemmas.Nat.{div-add-mod'}
use Rattle.std.proofs.lemmas.Bool.{eq-eqb, lt-ltb, cases_lt}
use Rattle.frame_phases.specs.Frames.{is_pulse}
use Rattle.frame_phases.specs.Pulses.{pulse, comes_after}

-- a positive multiple of the interval is a pulse
multiple_is : (interval t : ℕ) → 0 < t → t % interval ≡ 0 → is_pulse interval t ≡ true
multiple_is interval t above even = rw (lt-ltb 0 t above, eq-eqb (t % interval) 0 even) refl

-- the greatest u64 is a pulse of every interval
greatest_is : (interval : ℕ) → is_pulse interval (2 ^ 64 - 1) ≡ true
greatest_is interval = rw (or-true ((2 ^ 64 - 1) % interval == 0)) refl

-- the least positive multiple after any moment is a pulse
pub next_is_pulse : (interval t : ℕ) → 0 < interval → is_pulse interval (pulse interval t) ≡ true
next_is_pulse interval t above = by_size (cases_lt (2 ^ 64 - 1) m) where
  m : ℕ
  m = (t / interval + 1) * interval

  far : 0 < m
  far = omega (arith, add-mul (t / interval) 1 interval, above)

  by_size : (2 ^ 64 - 1 < m) ⊎ (m ≤ 2 ^ 64 - 1) → is_pulse interval (min m (2 ^ 64 - 1)) ≡ true
  by_size (inl l) = rw (min-eq_right {n = 2 ^ 64 - 1} {m = m} (omega (arith, l))) (greatest_is interval)
  by_size (inr l) = rw (min-eq_left {n = m} {m = 2 ^ 64 - 1} l) (multiple_is interval m far (mul-mod_left (t / interval + 1) interval))

-- the same of the next pulse as it is computed
pub computed_is_pulse : (interval t : ℕ) → 0 < interval → is_pulse interval (min (t - t % interval + interval) (2 ^ 64 - 1)) ≡ true
computed_is_pulse interval t above =
    let whole = div-add-mod' t interval in
    let more = add-mul (t / interval) 1 interval in
    let same : t - t % interval + interval ≡ (t / interval + 1) * interval = omega (arith, whole, more) in
    rw same (next_is_pulse interval t above)

-- the least positive multiple after a moment comes after each stamp up to this moment
pub next_comes_after : (interval stamp t : ℕ) → 0 < interval → stamp ≤ t → comes_after stamp (pulse interval t) ≡ true
next_comes_after interval stamp t above le = by_size (cases_lt (2 ^ 64 - 1) m) where
  m : ℕ
  m = (t / interval + 1) * interval

  later : stamp < m
  later = omega (arith, div-add-mod' t interval, mod-lt t above, add-mul (t / interval) 1 interval, le)

  by_size : (2 ^ 64 - 1 < m) ⊎ (m ≤ 2 ^ 64 - 1) → comes_after stamp (min m (2 ^ 64 - 1)) ≡ true
  by_size (inl l) = rw (min-eq_right {n = 2 ^ 64 - 1} {m = m} (omega (arith, l))) (or-true (nat_lt stamp (2 ^ 64 - 1)))
  by_size (inr l) = rw (min-eq_left {n = m} {m = 2 ^ 64 - 1} l) (rw (lt-ltb stamp m later) refl)
