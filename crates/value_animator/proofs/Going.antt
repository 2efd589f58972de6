-- Frame after frame.
use Rattle.std.proofs.Common.{◌≡◌, ℕ, zero, suc, ◌+◌, ◌-◌, ◌*◌, ◌/◌, ◌<◌, ◌≤◌, ◌^◌, List, [], ◌∷◌, ◌++◌, length, refl, ap, arith, true, false, Bool, subst, sym, ◌∙◌, map, append_assoc, append-nil, Some, None, inl, inr, IsTrue, codes, Option, take}
use Rattle.std.specs.Prelude.{min}
use Rattle.std.specs.List.{flat_map, list_all, enumerate_from}
use Rattle.std.proofs.lemmas.List.Elements.{filter_map-append}
use Rattle.std.proofs.lemmas.Bool.{cases_lt}
use Rattle.std.proofs.Math.Nat.{zero-div}
use Rattle.std.proofs.Math.Seq.{take-append_seam}
use Rattle.frame_phases.specs.declared.entry.FrameEntry.{FrameEntry}
use Rattle.frame_phases.specs.declared.entry.FrameEntry.TheVariants.{Posted}
use Rattle.frame_phases.specs.declared.entry.FrameRecord.{FrameRecord}
use Rattle.frame_phases.specs.Frames.{posted_count, live_callbacks, next_phase, last_time}
use Rattle.frame_phases.specs.Pulses.{pulse}
use Rattle.frame_phases.specs.State.{Frames, past, fresh, posted, next_callback}
use Rattle.value_animator.specs.declared.plan.Values.{Values}
use Rattle.value_animator.specs.declared.plan.Thing.{Thing}
use Rattle.value_animator.specs.declared.plan.Thing.TheVariants as thing_of
use Rattle.value_animator.specs.declared.runner.Runner.{Runner}
use Rattle.value_animator.specs.Framing.{IsFrameReady, last_number, after_frame}
use Rattle.value_animator.specs.Run.{nth_frame_time, frame_times, told_lines, frames_text, line_text, thing_lines, all_ended}
use Rattle.value_animator.specs.Runners.{runner_at, is_ended}
use Rattle.value_animator.specs.Plans.{AreValues}
use Rattle.value_animator.specs.Run.{due_callback, frame_entries, going_entries, record_entries, IsRunOf}
use Rattle.value_animator.specs.Laws.{begin_time, begin_times}
use Rattle.value_animator.specs.Going.{IsStarted, FramesHaveRun}
use Rattle.value_animator.proofs.Counting.{times_more, text_more, going_more, next_pulse, later_frame}
use Rattle.value_animator.proofs.Ended.{ended_are}
use Rattle.value_animator.proofs.Framing.{ready_again, again_stands}

-- ---- the invariant of the frames

pub record Goes (v : Values) (k : ℕ) (before now : List ℕ) (s : Frames) (things : List Runner) : Type 0 where
  pub ready : IsFrameReady s (nth_frame_time v.period k)
  pub looper : s.looper ≡ 0
  pub interval : s.interval ≡ v.period
  pub posted : posted_count (past s) ≡ k + 1
  pub entries : s.entries ≡ Posted (due_callback 0 0) ∷ going_entries v.period k
  pub sealed : s.sealed ≡ []
  pub standing : things ≡ map (λ t. runner_at t (frame_times v.period k)) v.things
  pub told : now ≡ before ++ frames_text v k
  pub not_ended : (m : ℕ) → m < k + 1 → all_ended v.things (frame_times v.period m) ≡ false

none_ended : (ts : List Thing) → 0 < length ts → all_ended ts [] ≡ false
none_ended [] some = absurd (omega arith)
none_ended (thing_of.Animator plan ∷ ts) some = refl
none_ended (thing_of.Countdown total interval ∷ ts) some = refl

pub goes_start : (v : Values) (before : List ℕ) (s : Frames) (things : List Runner) → 0 < length v.things → IsStarted s v.period
    → things ≡ map (λ t. runner_at t []) v.things → Goes v 0 before before s things
goes_start v before s things some h given = record {
  ready = h.ready;
  looper = h.looper;
  interval = h.interval;
  posted = h.posted;
  entries = h.entries;
  sealed = h.sealed;
  standing = given;
  told = sym (append-nil before);
  not_ended = λ m lt. let none : m ≡ 0 = omega arith in rw none (none_ended v.things some);
}

-- ---- the first posting

-- the state behind it
abbrev pub begun_with : ℕ → ℕ → Frames
begun_with period p = record { looper = 0; interval = period; phases = 4; entries = Posted (due_callback 0 0) ∷ []; sealed = []; scheduled = true; asked = Some p }

begun_ready : (period : ℕ) → 0 < period → IsStarted (begun_with period (nth_frame_time period 0)) period
unfolding next_phase last_time live_callbacks posted_count
begun_ready period some = record {
  looper = refl;
  interval = refl;
  ready = record {
    phases = refl;
    interval = some;
    scheduled = refl;
    asked = refl;
    next = refl;
    last = omega arith;
    some_posted = omega arith;
    due = 0;
    is_due = omega arith;
    live = refl;
  };
  posted = refl;
  entries = refl;
  sealed = refl;
}

posting_is : (period p : ℕ) → p ≡ pulse period 0 → posted (fresh 0 period 4) (next_callback (fresh 0 period 4) 1 0 0 None) 0 ≡ begun_with period p
unfolding posted_count
posting_is period p e = ap (λ q. begun_with period q) (sym e)

first_pulse : (period : ℕ) → 0 < period → period ≤ 1000000000 → nth_frame_time period 0 ≡ pulse period 0
first_pulse period some high =
    let none : 0 / period ≡ 0 = zero-div period in
    let one : (0 + 1) * period ≡ period = omega arith in
    let least : min ((0 + 1) * period) (2 ^ 64 - 1) ≡ (0 + 1) * period = omega arith in
    rw none (sym least)

-- the first posting makes it ready
pub started : (period : ℕ) (s : Frames) → 0 < period → period ≤ 1000000000 → s ≡ posted (fresh 0 period 4) (next_callback (fresh 0 period 4) 1 0 0 None) 0 → IsStarted s period
started period s some high e =
    subst (λ x. IsStarted x period) (sym (e ∙ posting_is period (nth_frame_time period 0) (first_pulse period some high))) (begun_ready period some)

-- what one more frame makes of the list of numbers without an end
later_not : (v : Values) (k : ℕ) → ((m : ℕ) → m < k + 1 → all_ended v.things (frame_times v.period m) ≡ false)
    → all_ended v.things (frame_times v.period (k + 1)) ≡ false → (m : ℕ) → m < k + 1 + 1 → all_ended v.things (frame_times v.period m) ≡ false
later_not v k before now m lt =
    elim (cases_lt m (k + 1)) [
      | inl less ↦ before m less
      | inr more ↦ let same : m ≡ k + 1 = omega arith in rw same now
    ]

-- what has been written with one frame more
written_more : (v : Values) (k p : ℕ) (before now written : List ℕ) → p ≡ nth_frame_time v.period k → now ≡ before ++ frames_text v k
    → written ≡ now ++ flat_map line_text (flat_map (thing_lines (frame_times v.period k) p) (enumerate_from 0 v.things)) → written ≡ before ++ frames_text v (k + 1)
written_more v k p before now written at so_far told =
    told
    ∙ (ap (λ q. now ++ flat_map line_text (flat_map (thing_lines (frame_times v.period k) q) (enumerate_from 0 v.things))) at
    ∙ (ap (λ l. l ++ flat_map line_text (told_lines v k)) so_far
    ∙ (append_assoc before (frames_text v k) (flat_map line_text (told_lines v k)) ∙ ap (λ l. before ++ l) (sym (text_more v k)))))

-- where the things stand then
state_more : (v : Values) (k p : ℕ) (asked : List Runner) → p ≡ nth_frame_time v.period k → asked ≡ map (λ t. runner_at t (frame_times v.period k ++ p ∷ [])) v.things
    → asked ≡ map (λ t. runner_at t (frame_times v.period (k + 1))) v.things
state_more v k p asked at run =
    run ∙ (ap (λ q. map (λ t. runner_at t (frame_times v.period k ++ q ∷ [])) v.things) at
    ∙ ap (λ ts. map (λ t. runner_at t ts) v.things) (sym (times_more v.period k)))

ended_then : (v : Values) (k p : ℕ) (asked : List Runner) (b : Bool) → p ≡ nth_frame_time v.period k → asked ≡ map (λ t. runner_at t (frame_times v.period k ++ p ∷ [])) v.things
    → b ≡ list_all is_ended asked → all_ended v.things (frame_times v.period (k + 1)) ≡ b
ended_then v k p asked b at run ended =
    sym (ended_are v.things (frame_times v.period (k + 1))) ∙ (ap (list_all is_ended) (sym (state_more v k p asked at run)) ∙ sym ended)

number_is : (v : Values) (k : ℕ) (before now : List ℕ) (s : Frames) (things : List Runner) → Goes v k before now s things → last_number s ≡ k
number_is v k before now s things h = let count : posted_count (past s) ≡ k + 1 = h.posted in omega arith

-- one frame more that leaves something
pub goes_more : (v : Values) (k p : ℕ) (before now written : List ℕ) (s t : Frames) (things asked : List Runner) → AreValues v → k ≤ 60000 → Goes v k before now s things
    → p ≡ nth_frame_time v.period k
    → written ≡ now ++ flat_map line_text (flat_map (thing_lines (frame_times v.period k) p) (enumerate_from 0 v.things))
    → asked ≡ map (λ t. runner_at t (frame_times v.period k ++ p ∷ [])) v.things → false ≡ list_all is_ended asked → t ≡ after_frame s p false
    → Goes v (k + 1) before written t asked
goes_more v k p before now written s t things asked limits few h at told run ended left =
    let some_period : 0 < v.period = let low : 1000000 ≤ v.period = limits.low in omega arith in
    let following : pulse v.period (nth_frame_time v.period k) ≡ nth_frame_time v.period (k + 1) = next_pulse v.period k some_period limits.high (omega arith) in
    let number : last_number s ≡ k = number_is v k before now s things h in
    let here : t ≡ after_frame s (nth_frame_time v.period k) false = left ∙ ap (λ q. after_frame s q false) at in
    let ready : IsFrameReady (after_frame s (nth_frame_time v.period k) false) (nth_frame_time v.period (k + 1)) =
    ready_again s (nth_frame_time v.period k) (nth_frame_time v.period (k + 1)) h.ready (sym (ap (λ i. pulse i (nth_frame_time v.period k)) h.interval ∙ following)) (later_frame v.period k) in
    let count : posted_count (past (after_frame s (nth_frame_time v.period k) false)) ≡ last_number s + 2 = (again_stands s (nth_frame_time v.period k) h.ready).posted in
    let counted : posted_count (past (after_frame s (nth_frame_time v.period k) false)) ≡ k + 1 + 1 = omega arith in
    record {
      ready = subst (λ x. IsFrameReady x (nth_frame_time v.period (k + 1))) (sym here) ready;
      looper = ap (λ x. x.looper) here ∙ h.looper;
      interval = ap (λ x. x.interval) here ∙ h.interval;
      posted = ap (λ x. posted_count (past x)) here ∙ counted;
      entries = ap (λ x. x.entries) here ∙ entries_more number;
      sealed = ap (λ x. x.sealed) here ∙ h.sealed;
      standing = state_more v k p asked at run;
      told = written_more v k p before now written at h.told told;
      not_ended = later_not v k h.not_ended (ended_then v k p asked false at run ended);
    }
  where
    entries_more : last_number s ≡ k → s.entries ++ frame_entries (nth_frame_time v.period k) (last_number s) false ≡ Posted (due_callback 0 0) ∷ going_entries v.period (k + 1)
    entries_more number =
        ap (λ es. es ++ frame_entries (nth_frame_time v.period k) (last_number s) false) h.entries
        ∙ (ap (λ n. (Posted (due_callback 0 0) ∷ going_entries v.period k) ++ frame_entries (nth_frame_time v.period k) n false) number
        ∙ ap (λ (es : List FrameEntry). Posted (due_callback 0 0) ∷ es) (sym (going_more v.period k)))

-- one frame more with which all has ended
pub goes_end : (v : Values) (k p : ℕ) (before now written : List ℕ) (s t : Frames) (things asked : List Runner) → Goes v k before now s things
    → p ≡ nth_frame_time v.period k
    → written ≡ now ++ flat_map line_text (flat_map (thing_lines (frame_times v.period k) p) (enumerate_from 0 v.things))
    → asked ≡ map (λ t. runner_at t (frame_times v.period k ++ p ∷ [])) v.things → true ≡ list_all is_ended asked → t ≡ after_frame s p true
    → FramesHaveRun v before written t
goes_end v k p before now written s t things asked h at told run ended left =
    let number : last_number s ≡ k = number_is v k before now s things h in
    let here : t ≡ after_frame s (nth_frame_time v.period k) true = left ∙ ap (λ q. after_frame s q true) at in
    let one : k + 1 ≡ suc k = omega arith in
    record {
      count = k + 1;
      counted = record { ended = ended_then v k p asked true at run ended; not_before = h.not_ended };
      told = written_more v k p before now written at h.told told;
      looper = ap (λ x. x.looper) here ∙ h.looper;
      interval = ap (λ x. x.interval) here ∙ h.interval;
      phases = ap (λ x. x.phases) here ∙ h.ready.phases;
      entries = rw one (ap (λ x. x.entries) here ∙ entries_are number);
      sealed = ap (λ x. x.sealed) here ∙ h.sealed;
    }
  where
    entries_are : last_number s ≡ k → s.entries ++ frame_entries (nth_frame_time v.period k) (last_number s) true ≡ record_entries v.period (suc k)
    entries_are number =
        ap (λ es. es ++ frame_entries (nth_frame_time v.period k) (last_number s) true) h.entries
        ∙ ap (λ n. (Posted (due_callback 0 0) ∷ going_entries v.period k) ++ frame_entries (nth_frame_time v.period k) n true) number

-- ---- the times of the frames in their record

going_begins : (period n : ℕ) → begin_times (going_entries period n) ≡ frame_times period n
going_begins period zero = refl
going_begins period (suc n) =
    let one : n + 1 ≡ suc n = omega arith in
    let more : begin_times (going_entries period (n + 1)) ≡ frame_times period (n + 1) =
    ap begin_times (going_more period n)
    ∙ (filter_map-append begin_time (going_entries period n) (frame_entries (nth_frame_time period n) n false)
    ∙ (ap (λ l. l ++ nth_frame_time period n ∷ []) (going_begins period n) ∙ sym (times_more period n))) in
    subst (λ m. begin_times (going_entries period m) ≡ frame_times period m) one more

pub begins_are : (period n : ℕ) → begin_times (record_entries period n) ≡ frame_times period n
begins_are period zero = refl
begins_are period (suc n) =
    let one : n + 1 ≡ suc n = omega arith in
    let more : begin_times (record_entries period (suc n)) ≡ frame_times period (n + 1) =
    filter_map-append begin_time (Posted (due_callback 0 0) ∷ going_entries period n) (frame_entries (nth_frame_time period n) n true)
    ∙ (ap (λ l. l ++ nth_frame_time period n ∷ []) (going_begins period n) ∙ sym (times_more period n)) in
    more ∙ ap (frame_times period) one

pub runs_begin : (v : Values) (bytes : List ℕ) (frames : FrameRecord) (run : IsRunOf v bytes frames) → begin_times frames.entries ≡ frame_times v.period run.count
runs_begin v bytes frames run = ap begin_times run.entries ∙ begins_are v.period run.count

-- the whole text and the record
pub run_is : (v : Values) (first last bytes : List ℕ) (s : Frames) (kept : FrameRecord) → FramesHaveRun v first last s
    → first ≡ line_text (codes "values" ∷ codes "1" ∷ []) → bytes ≡ last ++ line_text (codes "end" ∷ [])
    → kept.looper ≡ s.looper → kept.interval ≡ s.interval → kept.phases ≡ s.phases → kept.entries ≡ s.entries
    → IsRunOf v bytes kept
run_is v first last bytes s kept h head tail looper interval phases entries = record {
  count = h.count;
  counted = h.counted;
  told = tail ∙ ap (λ l. l ++ line_text (codes "end" ∷ [])) (h.told ∙ ap (λ l. l ++ frames_text v h.count) head);
  looper = looper ∙ h.looper;
  interval = interval ∙ h.interval;
  phases = phases ∙ h.phases;
  entries = entries ∙ h.entries;
}

-- ---- small facts of the code

pub some_there : (n : ℕ) (b : Bool) → (n ≡ 0 → IsTrue b) → b ≡ false → 0 < n
some_there zero b empty not_empty = let there : b ≡ true = empty refl in let wrong : true ≡ false = sym there ∙ not_empty in absurd cc
some_there (suc n) b empty not_empty = omega arith

pub same_pulse : (o : Option ℕ) (p q : ℕ) → o ≡ Some p → o ≡ Some q → p ≡ q
same_pulse o p q is asked = let e : Some p ≡ Some q = sym is ∙ asked in cc

-- what was lent comes back whole
pub front_back : (n : ℕ) (xs ys : List Runner) → length xs ≡ n → take n (xs ++ ys) ≡ xs
front_back n xs ys e = ap (λ m. take m (xs ++ ys)) (sym e) ∙ take-append_seam xs ys
