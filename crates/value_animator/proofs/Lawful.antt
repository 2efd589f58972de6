-- The frame record of a run is lawful.
use Rattle.std.proofs.Common.{◌≡◌, ℕ, zero, suc, ◌+◌, ◌-◌, ◌/◌, ◌<◌, ◌≤◌, min, List, [], ◌∷◌, ◌++◌, refl, arith, true, false, subst, sym, None, reverse, nat_le, nat_lt, IsTrue}
use Rattle.std.specs.Prelude.{◌==◌}
use Rattle.std.proofs.lemmas.List.{reverse-append}
use Rattle.std.proofs.lemmas.Bool.Decides.{nat_tests}
use Rattle.frame_phases.specs.declared.entry.FrameEntry.{FrameEntry}
use Rattle.frame_phases.specs.declared.entry.FrameEntry.TheVariants.{Posted}
use Rattle.frame_phases.specs.declared.entry.FrameRecord.{FrameRecord}
use Rattle.frame_phases.specs.Frames.{lawful, all_allowed, is_allowed, owed_callbacks, live_callbacks, next_phase, last_time, posted_count, in_due_order, before_later}
use Rattle.value_animator.specs.declared.plan.Values.{Values}
use Rattle.value_animator.specs.Plans.{AreValues}
use Rattle.value_animator.specs.Run.{due_callback, frame_entries, nth_frame_time, going_entries, record_entries, IsRunOf}
use Rattle.value_animator.proofs.Counting.{going_more, later_frame}

-- a past, the newest first, behind which the callback of this number waits, and where each entry stands as it may
pub record Stood (period k due : ℕ) (past : List FrameEntry) : Type 0 where
  pub allowed : all_allowed period 4 past ≡ true
  pub settled : owed_callbacks past ≡ []
  pub next : next_phase 4 past ≡ None
  pub posted : posted_count past ≡ k + 1
  pub live : live_callbacks past ≡ due_callback k due ∷ []

same : (n : ℕ) → (n == n) ≡ true
same n = grind (arith, nat_tests)

is_le : (m n : ℕ) → m ≤ n → nat_le m n ≡ true
is_le m n le = grind (arith, nat_tests)

is_lt : (m n : ℕ) → m < n → nat_lt m n ≡ true
is_lt m n lt = grind (arith, nat_tests)

-- a frame that posts again
stood_more : (period k due p : ℕ) (past : List FrameEntry) → 0 < period → Stood period k due past → due ≤ p / 1000000 → last_time past ≤ p
    → Stood period (k + 1) (p / 1000000) (reverse (frame_entries p k false) ++ past)
unfolding all_allowed is_allowed owed_callbacks live_callbacks next_phase last_time posted_count in_due_order before_later
stood_more period k due p past some h le later =
    let whole : min p p ≡ p = omega arith in
    let none : p - p ≡ 0 = omega arith in
    record {
      allowed = rw (h.allowed, h.settled, h.next, whole, none, is_lt 0 period some, is_le (last_time past) p later, h.live, is_le due (p / 1000000) le, h.posted, same p, same k, same (k + 1)) refl;
      settled = rw (h.live, is_le due (p / 1000000) le) refl;
      next = refl;
      posted = rw h.posted refl;
      live = rw (h.live, is_le due (p / 1000000) le) refl;
    }

-- the last frame
ends_lawful : (period k due p : ℕ) (es : List FrameEntry) → 0 < period → Stood period k due (reverse es) → due ≤ p / 1000000 → last_time (reverse es) ≤ p
    → lawful period 4 (es ++ frame_entries p k true) ≡ true
unfolding lawful all_allowed is_allowed owed_callbacks live_callbacks next_phase last_time posted_count in_due_order before_later
ends_lawful period k due p es some h le later =
    let whole : min p p ≡ p = omega arith in
    let none : p - p ≡ 0 = omega arith in
    rw (reverse-append es (frame_entries p k true), h.allowed, h.settled, h.next, whole, none, is_lt 0 period some, is_le (last_time (reverse es)) p later, h.live, is_le due (p / 1000000) le, same p, same k) refl

-- the entries before the frame that has so many frames before it
pub record Waits (period n : ℕ) (es : List FrameEntry) : Type 0 where
  pub due : ℕ
  pub is_due : due ≤ nth_frame_time period n / 1000000
  pub last : last_time (reverse es) ≤ nth_frame_time period n
  pub stood : Stood period n due (reverse es)

waits_more : (period n : ℕ) (es : List FrameEntry) → 0 < period → Waits period n es → Waits period (n + 1) (es ++ frame_entries (nth_frame_time period n) n false)
unfolding last_time
waits_more period n es some h =
    let later : nth_frame_time period n ≤ nth_frame_time period (n + 1) = later_frame period n in
    let last_is : last_time (reverse (es ++ frame_entries (nth_frame_time period n) n false)) ≡ nth_frame_time period n =
    rw (reverse-append es (frame_entries (nth_frame_time period n) n false)) refl in
    record {
      due = nth_frame_time period n / 1000000;
      is_due = omega (arith, later);
      last = omega (arith, last_is, later);
      stood = subst (Stood period (n + 1) (nth_frame_time period n / 1000000)) (sym (reverse-append es (frame_entries (nth_frame_time period n) n false)))
          (stood_more period n h.due (nth_frame_time period n) (reverse es) some h.stood h.is_due h.last);
    }

waits : (period n : ℕ) → 0 < period → Waits period n (Posted (due_callback 0 0) ∷ going_entries period n)
unfolding all_allowed is_allowed owed_callbacks live_callbacks next_phase last_time posted_count
waits period zero some = record {
  due = 0;
  is_due = omega arith;
  last = omega arith;
  stood = record { allowed = refl; settled = refl; next = refl; posted = refl; live = refl };
}
waits period (suc n) some =
    let one : n + 1 ≡ suc n = omega arith in
    subst (λ m. Waits period m (Posted (due_callback 0 0) ∷ going_entries period m)) one
    (subst (λ (es : List FrameEntry). Waits period (n + 1) (Posted (due_callback 0 0) ∷ es)) (sym (going_more period n))
    (waits_more period n (Posted (due_callback 0 0) ∷ going_entries period n) some (waits period n some)))

record_lawful : (period n : ℕ) → 0 < period → lawful period 4 (record_entries period n) ≡ true
unfolding lawful all_allowed owed_callbacks
record_lawful period zero some = refl
record_lawful period (suc n) some =
    let h = waits period n some in
    ends_lawful period n h.due (nth_frame_time period n) (Posted (due_callback 0 0) ∷ going_entries period n) some h.stood h.is_due h.last

pub runs_are_lawful : (v : Values) (bytes : List ℕ) (frames : FrameRecord) → AreValues v → IsRunOf v bytes frames → IsTrue (lawful frames.interval frames.phases frames.entries)
runs_are_lawful v bytes frames limits run =
    let some : 0 < v.period = let low : 1000000 ≤ v.period = limits.low in omega arith in
    rw (run.interval, run.phases, run.entries) (record_lawful v.period run.count some)
