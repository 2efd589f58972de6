-- So many frames, and one more.
use Rattle.std.proofs.Common.{◌≡◌, ℕ, zero, suc, ◌+◌, ◌-◌, ◌*◌, ◌/◌, ◌<◌, ◌≤◌, ◌^◌, min, max, List, [], ◌∷◌, ◌++◌, refl, ap, arith, true, false, subst, sym, ◌∙◌, nat_le, append-nil, All}
use Rattle.std.specs.List.{flat_map, range_with_len}
use Rattle.std.proofs.lemmas.List.FromFn.{map-range_with_len_more}
use Rattle.std.proofs.lemmas.List.{map-id}
use Rattle.std.proofs.lemmas.Grind.{flat_map-append}
use Rattle.std.proofs.lemmas.Bool.Decides.{nat_tests}
use Rattle.std.proofs.Math.Nat.{mul-div_left, mul-le-mul_left, mul-le-mul_right}
use Rattle.std.proofs.lemmas.Nat.{mul-le}
use Rattle.frame_phases.specs.Pulses.{pulse}
use Rattle.countdown.specs.Moments.{latest, elapsed, has_ended}
use Rattle.countdown.proofs.Spans.{latest-push}
use Rattle.value_animator.specs.declared.plan.Values.{Values}
use Rattle.value_animator.specs.declared.plan.Thing.{Thing}
use Rattle.value_animator.specs.declared.plan.Thing.TheVariants as thing_of
use Rattle.std.proofs.lemmas.Bool.{and_from}
use Rattle.value_animator.specs.Run.{nth_frame_time, frame_times, told_lines, frames_text, line_text, all_ended, thing_end}
use Rattle.value_animator.specs.Plans.{AreValues, IsThing}
use Rattle.value_animator.specs.Run.{frame_entries, going_entries}

-- one number more
range_more : (a n : ℕ) → range_with_len a (n + 1) ≡ range_with_len a n ++ (a + n) ∷ []
range_more a n = sym (map-id (range_with_len a (n + 1))) ∙ (map-range_with_len_more (λ x. x) a n (a + n) refl ∙ ap (λ l. l ++ (a + n) ∷ []) (map-id (range_with_len a n)))

pub times_more : (period n : ℕ) → frame_times period (n + 1) ≡ frame_times period n ++ nth_frame_time period n ∷ []
times_more period n = map-range_with_len_more (nth_frame_time period) 0 n n (omega arith)

-- what a function of each number gives, with one number more
each_more : {A : Type 0} (f : ℕ → List A) (n : ℕ) → flat_map f (range_with_len 0 (n + 1)) ≡ flat_map f (range_with_len 0 n) ++ f n
each_more f n =
    let number : 0 + n ≡ n = omega arith in
    let more : range_with_len 0 (n + 1) ≡ range_with_len 0 n ++ n ∷ [] = range_more 0 n ∙ ap (λ m. range_with_len 0 n ++ m ∷ []) number in
    ap (flat_map f) more ∙ (flat_map-append f (range_with_len 0 n) (n ∷ []) ∙ ap (λ l. flat_map f (range_with_len 0 n) ++ l) (append-nil (f n)))

pub text_more : (v : Values) (n : ℕ) → frames_text v (n + 1) ≡ frames_text v n ++ flat_map line_text (told_lines v n)
text_more v n = each_more (λ k. flat_map line_text (told_lines v k)) n

pub going_more : (period n : ℕ) → going_entries period (n + 1) ≡ going_entries period n ++ frame_entries (nth_frame_time period n) n false
going_more period n = each_more (λ k. frame_entries (nth_frame_time period k) k false) n

-- ---- pulses

-- the pulse after a frame's time is that of the next frame
pub next_pulse : (period k : ℕ) → 0 < period → period ≤ 1000000000 → k ≤ 60001 → pulse period (nth_frame_time period k) ≡ nth_frame_time period (k + 1)
next_pulse period k some high few =
    let whole : (k + 1) * period / period ≡ k + 1 = mul-div_left (k + 1) some in
    let small : (k + 1 + 1) * period ≤ 60003 * 1000000000 = mul-le (k + 1 + 1) period 60003 1000000000 (omega arith) high in
    let first : min ((k + 1 + 1) * period) (2 ^ 64 - 1) ≡ (k + 1 + 1) * period = omega arith in
    rw (whole, first) refl

-- the next frame is later
pub later_frame : (period k : ℕ) → nth_frame_time period k ≤ nth_frame_time period (k + 1)
later_frame period k = mul-le-mul_right period (omega arith)

-- ---- the end comes

product_more : (n period : ℕ) → (n + 1) * period ≡ n * period + period
product_more n period = omega arith

-- so many frames span a millisecond each at least
spans : (period n : ℕ) → 1000000 ≤ period → n ≤ elapsed (frame_times period (suc n))
spans period n low =
    let one : n + 1 ≡ suc n = omega arith in
    let times : frame_times period (suc n) ≡ frame_times period n ++ nth_frame_time period n ∷ [] =
    subst (λ m. frame_times period m ≡ frame_times period n ++ nth_frame_time period n ∷ []) one (times_more period n) in
    let greatest : latest (frame_times period (suc n)) ≡ max (latest (frame_times period n)) (nth_frame_time period n) =
    ap latest times ∙ latest-push (frame_times period n) (nth_frame_time period n) in
    let part : n * 1000000 ≤ n * period = mul-le-mul_left n low in
    let joined : (n + 1) * period ≡ n * period + period = product_more n period in
    let start : (0 + 1) * period ≡ period = omega arith in
    far_enough n period (latest (frame_times period (suc n))) (omega arith)
  where
    far_enough : (n period greatest : ℕ) → n * 1000000 + (0 + 1) * period ≤ greatest → n ≤ (greatest - (0 + 1) * period) / 1000000
    far_enough n period greatest le = omega arith

thing_ends : (t : Thing) → IsThing t → thing_end t ≤ 60000
thing_ends (thing_of.Animator plan) h = h.end
thing_ends (thing_of.Countdown total interval) h = h.0

one_ends : (t : Thing) (period n : ℕ) → IsThing t → 1000000 ≤ period → 60000 ≤ n → has_ended (thing_end t) (frame_times period (suc n)) ≡ true
one_ends t period n h low many = by_number (thing_end t) n (elapsed (frame_times period (suc n))) (thing_ends t h) many (spans period n low)
  where
    by_number : (total n e : ℕ) → total ≤ 60000 → 60000 ≤ n → n ≤ e → nat_le total e ≡ true
    by_number total n e a b c = grind (arith, nat_tests)

all_end : (ts : List Thing) (period n : ℕ) → All IsThing ts → 1000000 ≤ period → 60000 ≤ n → all_ended ts (frame_times period (suc n)) ≡ true
all_end [] period n h low many = refl
all_end (t ∷ ts) period n h low many =
    let first : has_ended (thing_end t) (frame_times period (suc n)) ≡ true = one_ends t period n (h zero t (omega arith)) low many in
    let rest : all_ended ts (frame_times period (suc n)) ≡ true = all_end ts period n (λ k d lt. h (suc k) d (omega arith)) low many in
    and_from _ _ first rest

-- by then all have ended
pub end_comes : (v : Values) (n : ℕ) → AreValues v → 60001 ≤ n → all_ended v.things (frame_times v.period n) ≡ true
end_comes v zero h many = absurd (omega arith)
end_comes v (suc n) h many = all_end v.things v.period n h.things h.low (omega arith)
