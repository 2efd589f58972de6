-- A frame with a later stamp and start has no earlier time.
use Rattle.std.proofs.Common.{◌≡◌, ℕ, ◌<◌, ◌≤◌, ◌+◌, ◌-◌, ◌*◌, ◌/◌, ◌%◌, ◌^◌, true, ◌⊎◌, inl, inr, List, length, arith, sym, ap, ◌∙◌}
use Rattle.std.specs.Prelude.{min, ◌==◌, ◌&&◌, ◌||◌, not, nat_lt, nat_le, if◌then◌else◌}
use Rattle.std.proofs.Math.Nat.{mod-lt, zero-mod, min-eq_left, min-eq_right, add-mul-mod_self_right, mod-eq_of_lt}
use Rattle.std.proofs.lemmas.Nat.{div-add-mod', le-div, mul-le}
use Rattle.std.proofs.lemmas.Bool.{cases_lt, cond-true, cond_both, lt-ltb, or_cases, and_parts, eqb-true, ltb-true}
use Rattle.frame_phases.specs.declared.entry.FrameEntry.{FrameEntry}
use Rattle.frame_phases.specs.Frames.{is_pulse, frame_time, commit_time, take_time, last_time, taken_callbacks}
use Rattle.frame_phases.specs.Pulses.{is_stamp, comes_after}

-- a multiple of the interval up to a moment is no later than the greatest one
multiple_below : (interval m t : ℕ) → 0 < interval → m % interval ≡ 0 → m ≤ t → m ≤ t - t % interval
multiple_below interval m t above even le =
    let is = div-add-mod' m interval in
    let whole = div-add-mod' t interval in
    let fewer : m / interval ≤ t / interval = le-div (m / interval) t interval above (omega (arith, is, even, le)) in
    let most : m / interval * interval ≤ t / interval * interval = mul-le (m / interval) interval (t / interval) interval fewer (omega arith) in
    omega (arith, is, even, whole, most)

-- the greatest multiples up to two moments have the moments' order
greatest_rises : (interval s t : ℕ) → 0 < interval → s ≤ t → s - s % interval ≤ t - t % interval
greatest_rises interval s t above le =
    let is = div-add-mod' s interval in
    let whole = div-add-mod' t interval in
    let fewer : s / interval ≤ t / interval = le-div (s / interval) t interval above (omega (arith, is, le)) in
    let most : s / interval * interval ≤ t / interval * interval = mul-le (s / interval) interval (t / interval) interval fewer (omega arith) in
    omega (arith, is, whole, most)

-- from the stamp's moment on or before it, a frame's time is its start
time_early : (interval v s : ℕ) → 0 < interval → s ≤ v → frame_time interval v s ≡ s
time_early interval v s above le =
    rw (min-eq_right {n = s} {m = v} le) (cond-true (nat_lt (s - s) interval) _ _ (lt-ltb (s - s) interval (omega (arith, above))))

-- after a multiple of the interval it is the greatest multiple up to the start
time_late : (interval v s : ℕ) → v % interval ≡ 0 → v ≤ s → frame_time interval v s ≡ s - s % interval
time_late interval v s even le =
    rw (min-eq_left {n = v} {m = s} le) (cond_both (nat_lt (s - v) interval) v (s - (s - v) % interval) (λ (n : ℕ). n ≡ s - s % interval)
    (λ e. let near = mod-eq_of_lt {n = s - v} {m = interval} (ltb-true (s - v) interval e) in omega (arith, near, same, le))
    (λ e. ap (λ (n : ℕ). s - n) same))
  where
    same : (s - v) % interval ≡ s % interval
    same =
        let is = div-add-mod' v interval in
        let whole : s ≡ s - v + v / interval * interval = omega (arith, is, even, le) in
        sym (ap (λ (n : ℕ). n % interval) whole ∙ add-mul-mod_self_right (s - v) (v / interval) interval)

-- a stamp but the greatest u64 is a multiple of the interval
multiple_of : (interval v : ℕ) → is_stamp interval v ≡ true → v < 2 ^ 64 - 1 → v % interval ≡ 0
multiple_of interval v stamp less = first (or_cases (v == 0) (is_pulse interval v) stamp) where
  second : ((v % interval == 0) ≡ true) ⊎ ((v == 2 ^ 64 - 1) ≡ true) → v % interval ≡ 0
  second (inl e) = eqb-true (v % interval) 0 e
  second (inr e) = let greatest : v ≡ 2 ^ 64 - 1 = eqb-true v (2 ^ 64 - 1) e in absurd (omega (arith, greatest, less))

  first : ((v == 0) ≡ true) ⊎ (is_pulse interval v ≡ true) → v % interval ≡ 0
  first (inl e) = ap (λ (n : ℕ). n % interval) (eqb-true v 0 e) ∙ zero-mod interval
  first (inr e) = second (or_cases (v % interval == 0) (v == 2 ^ 64 - 1) (and_parts (nat_lt 0 v) (v % interval == 0 || v == 2 ^ 64 - 1) e).1)

-- a frame's time is no later than its start
pub time_at_most : (interval v s : ℕ) → frame_time interval v s ≤ s
time_at_most interval v s =
    cond_both (nat_lt (s - min v s) interval) (min v s) (s - (s - min v s) % interval) (λ (n : ℕ). n ≤ s) (λ e. omega arith) (λ e. omega arith)

-- and less than one interval before it
pub time_at_least : (interval v s : ℕ) → 0 < interval → s < frame_time interval v s + interval
time_at_least interval v s above =
    cond_both (nat_lt (s - min v s) interval) (min v s) (s - (s - min v s) % interval) (λ (n : ℕ). s < n + interval)
    (λ e. let near = ltb-true (s - min v s) interval e in omega (arith, near))
    (λ e. let rest = mod-lt (s - min v s) {m = interval} above in omega (arith, rest))

-- with a stamp and a start that are no earlier, a frame's time is no earlier
module _ (interval v w s t : ℕ) (above : 0 < interval) (stamp : is_stamp interval v ≡ true) (stamp' : is_stamp interval w ≡ true) (le : s ≤ t) (fits : t < 2 ^ 64) where
  -- where the start is up to the stamp
  early_rises : t ≤ w → frame_time interval v s ≤ frame_time interval w t
  early_rises early = let is = time_early interval w t above early in let most = time_at_most interval v s in omega (arith, is, most, le)

  late_rises : v ≤ w → w < t → (v < s) ⊎ (s ≤ v) → frame_time interval v s ≤ frame_time interval w t
  late_rises order late (inl l) =
      let is = time_late interval v s (multiple_of interval v stamp (omega (arith, l, le, fits))) (omega (arith, l)) in
      let is' = time_late interval w t (multiple_of interval w stamp' (omega (arith, late, fits))) (omega (arith, late)) in
      let rises = greatest_rises interval s t above le in
      omega (arith, is, is', rises)
  late_rises order late (inr l) =
      let even : w % interval ≡ 0 = multiple_of interval w stamp' (omega (arith, late, fits)) in
      let is = time_early interval v s above l in
      let is' = time_late interval w t even (omega (arith, late)) in
      let below = multiple_below interval w t above even (omega (arith, late)) in
      omega (arith, is, is', below, l, order)

  pub time_rises : v ≤ w → frame_time interval v s ≤ frame_time interval w t
  time_rises order = by_start (cases_lt w t) where
    by_start : (w < t) ⊎ (t ≤ w) → frame_time interval v s ≤ frame_time interval w t
    by_start (inl l) = late_rises order l (cases_lt v s)
    by_start (inr l) = early_rises l

  -- so it is with the stamp of a pulse that comes after another
  pub time_rises_after : comes_after v w ≡ true → frame_time interval v s ≤ frame_time interval w t
  time_rises_after after = by_pulse (or_cases (nat_lt v w) (w == 2 ^ 64 - 1) after) where
    by_pulse : (nat_lt v w ≡ true) ⊎ ((w == 2 ^ 64 - 1) ≡ true) → frame_time interval v s ≤ frame_time interval w t
    by_pulse (inl e) = let later = ltb-true v w e in time_rises (omega (arith, later))
    by_pulse (inr e) = let greatest = eqb-true w (2 ^ 64 - 1) e in early_rises (omega (arith, greatest, fits))

-- a phase that is taken no later than a moment moves the last frame time to none later than that of a frame which would start then
pub take_at_most : (interval phases : ℕ) (past : List FrameEntry) (phase now w t : ℕ) → 0 < interval → now ≤ t → last_time past ≤ frame_time interval w t
    → take_time interval phases past phase now ≤ frame_time interval w t
take_at_most interval phases past phase now w t above le before =
    cond_both ((phase + 1 == phases) && not (length (taken_callbacks past phase now) == 0)) (commit_time interval (last_time past) now) (last_time past) (λ (n : ℕ). n ≤ frame_time interval w t)
    (λ e. by_late (now - last_time past) (frame_time interval w t) before (time_at_least interval w t above))
    (λ e. before)
  where
    by_late : (late time : ℕ) → last_time past ≤ time → t < time + interval
        → (if nat_le (2 * interval) late then now - (late % interval + interval) else last_time past) ≤ time
    by_late late time b least =
        cond_both (nat_le (2 * interval) late) (now - (late % interval + interval)) (last_time past) (λ (n : ℕ). n ≤ time)
        (λ e. omega (arith, least, le))
        (λ e. b)
