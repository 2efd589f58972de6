-- What a turn leaves of a frame that is to begin, and of what is asked for.
use Rattle.std.proofs.Common.{◌≡◌, ◌≢◌, ℕ, Bool, true, false, true≢false, cond, List, Option, Some, None, refl, sym, ap, ◌∙◌, subst, arith}
use Rattle.std.specs.Prelude.{◌/◌, max, ◌&&◌, is_some, is_none, nat_lt, if◌then◌else◌, Result, Ok, Err, OnOk, OnErr}
use Rattle.loop_model.specs.declared.memory.NoMemory.{NoMemory}
use Rattle.frame_phases.specs.declared.entry.FrameEntry.{FrameEntry}
use Rattle.frame_phases.specs.declared.entry.FrameEntry.TheVariants.{Posted}
use Rattle.frame_phases.specs.declared.entry.Scheduling.{Scheduling}
use Rattle.frame_phases.specs.declared.entry.Beginning.{Beginning}
use Rattle.frame_phases.specs.declared.entry.Beginning.TheVariants as begin
use Rattle.frame_phases.specs.declared.entry.Took.{Took}
use Rattle.frame_phases.specs.declared.entry.Took.TheVariants as took
use Rattle.frame_phases.specs.Pulses.{pulse}
use Rattle.frame_phases.specs.State.{Frames, with_entry, scheduled_at, next_callback, removed, delivered, BeginsBy, TakesBy, Seals}
use Rattle.choreographer.specs.declared.state.StampedFrames.{StampedFrames}
use Rattle.choreographer.specs.declared.view.Constants.{Constants}
use Rattle.std.specs.Option.{option_map_or}
use Rattle.choreographer.specs.Turn.{AsksIfScheduled, awaits_frame, asked_of}
use Rattle.choreographer.specs.Steps.{pulsed, known_by, posting_moment}
use Rattle.choreographer.specs.Calls.{with_post}

-- a step that keeps whether a frame is to begin, and after which a pulse is asked for only for a scheduled frame, if so it was before
pub record KeepsWait (x y : StampedFrames) : Type 0 where
  pub awaits : awaits_frame y ≡ awaits_frame x
  pub asks : (key : Constants) → AsksIfScheduled key x → AsksIfScheduled key y
  -- where one pass alone delivers pulses, a pulse that is asked for stays so
  pub asked : (key : Constants) → AsksIfScheduled key x → (n : ℕ) → key.pulses ≡ Some n → asked_of x ≢ 0 → asked_of y ≡ asked_of x

-- a frame is to begin where it is scheduled and nothing is asked for
pub to_begin : (scheduled : Bool) (asked : Option ℕ) → cond {A = ℕ} (scheduled && is_none asked) 1 0 ≡ 1 → (scheduled ≡ true) × (asked ≡ None)
to_begin true None is = (refl, refl)
to_begin true (Some p) is = absurd (omega (arith, is))
to_begin false asked is = absurd (omega (arith, is))

-- so none is while a pulse is asked for
none_asked : (scheduled : Bool) (p : ℕ) → cond {A = ℕ} (scheduled && is_none (Some p)) 1 0 ≡ 0
none_asked true p = refl
none_asked false p = refl

-- one is asked for where there is more than none
some_asked : (asked : Option ℕ) → option_map_or (λ p. p) asked 0 ≢ 0 → is_some asked ≡ true
some_asked None any = absurd (any refl)
some_asked (Some p) any = refl

-- a pulse that is delivered is the one that was asked for
was_asked : (o : Option ℕ) (now stamp : ℕ) → Some stamp ≡ delivered o now → (p : ℕ) × (o ≡ Some p)
was_asked None now stamp is = absurd (cc (is))
was_asked (Some p) now stamp is = (p, refl)

module _ (x y : StampedFrames) where
  -- whether a frame is scheduled is as it was, and so is what is asked for
  keeps_same : y.frames.scheduled ≡ x.frames.scheduled → y.frames.asked ≡ x.frames.asked → KeepsWait x y
  keeps_same scheduled asked = record {
    awaits = λ i. cond (scheduled i && is_none (asked i)) 1 0;
    asks = λ key if_scheduled n named any. scheduled ∙ if_scheduled n named (ap is_some (sym asked) ∙ any);
    asked = λ key if_scheduled n named any. ap (λ (o : Option ℕ). option_map_or (λ p. p) o 0) asked;
  }

  pub keeps_all : y.frames ≡ x.frames → KeepsWait x y
  keeps_all same = keeps_same (ap (λ (f : Frames). f.scheduled) same) (ap (λ (f : Frames). f.asked) same)

  -- a frame is scheduled and asked for, where none was
  keeps_new : (p : ℕ) → x.frames.scheduled ≡ false → y.frames.scheduled ≡ true → y.frames.asked ≡ Some p → KeepsWait x y
  keeps_new p none scheduled asked = record {
    awaits = (λ i. cond (scheduled i && is_none (asked i)) 1 0) ∙ ap (λ b. cond {A = ℕ} (b && is_none x.frames.asked) 1 0) (sym none);
    asks = λ key if_scheduled n named any. scheduled;
    asked = λ key if_scheduled n named any. absurd (true≢false (sym (if_scheduled n named (some_asked x.frames.asked any)) ∙ none));
  }

  -- a frame is scheduled unless one is
  keeps_scheduled : (s : Frames) (now : ℕ) → s.scheduled ≡ x.frames.scheduled → s.asked ≡ x.frames.asked → y.frames ≡ scheduled_at s now → KeepsWait x y
  keeps_scheduled s now scheduled asked is = by_cases s.scheduled refl is
    where
      by_cases : (b : Bool) → s.scheduled ≡ b → y.frames ≡ (if b then s else record s { scheduled = true; asked = Some (pulse s.interval now) }) → KeepsWait x y
      by_cases true e left = keeps_same (ap (λ (f : Frames). f.scheduled) left ∙ scheduled) (ap (λ (f : Frames). f.asked) left ∙ asked)
      by_cases false e left = keeps_new (pulse s.interval now) (sym scheduled ∙ e) (ap (λ (f : Frames). f.scheduled) left) (ap (λ (f : Frames). f.asked) left)

  -- a callback is posted
  pub post_waits : (phase due id : ℕ) (token : Option ℕ) (now : ℕ) → y ≡ with_post x phase due id token now → KeepsWait x y
  post_waits phase due id token now is = by_due (nat_lt (posting_moment x due now / 1000000) due) (ap (λ (z : StampedFrames). z.frames) is)
    where
      grown : Frames
      grown = with_entry x.frames (Posted (next_callback x.frames phase due id token))

      by_due : (b : Bool) → y.frames ≡ (if b then grown else scheduled_at grown (posting_moment x due now)) → KeepsWait x y
      by_due true left = keeps_same (ap (λ (f : Frames). f.scheduled) left) (ap (λ (f : Frames). f.asked) left)
      by_due false left = keeps_scheduled grown (posting_moment x due now) refl refl left

  -- or no memory was found for it
  pub posted_waits : (phase due id : ℕ) (token : Option ℕ) (now : ℕ) (result : Result Scheduling NoMemory) → OnOk result (y ≡ with_post x phase due id token now) → OnErr result (y ≡ x) → KeepsWait x y
  posted_waits phase due id token now (Ok r) is none = post_waits phase due id token now is
  posted_waits phase due id token now (Err e) is none = keeps_all (ap (λ (z : StampedFrames). z.frames) none)

  -- callbacks are removed, or no memory was found
  pub removed_waits : (phase id : ℕ) (token : Option ℕ) (result : Result ℕ NoMemory) → OnOk result (y ≡ record x { frames = removed x.frames phase id token }) → OnErr result (y ≡ x) → KeepsWait x y
  removed_waits phase id token (Ok n) is none = keeps_same (ap (λ (z : StampedFrames). z.frames.scheduled) is) (ap (λ (z : StampedFrames). z.frames.asked) is)
  removed_waits phase id token (Err e) is none = keeps_all (ap (λ (z : StampedFrames). z.frames) none)

  -- a frame is scheduled, or none is wanted
  pub due_waits : (now : ℕ) (did : Bool) → y ≡ (if did then record x { frames = scheduled_at x.frames (known_by x now) } else x) → KeepsWait x y
  due_waits now true is = keeps_scheduled x.frames (known_by x now) refl refl (ap (λ (z : StampedFrames). z.frames) is)
  due_waits now false is = keeps_all (ap (λ (z : StampedFrames). z.frames) is)

  -- entries are handed out
  pub sealed_waits : (answer : Result (List FrameEntry) NoMemory) → Seals x.frames answer y.frames → KeepsWait x y
  sealed_waits (Ok part) seals = keeps_same (ap (λ (f : Frames). f.scheduled) seals.1) (ap (λ (f : Frames). f.asked) seals.1)
  sealed_waits (Err e) same = keeps_all same

  -- a phase is taken
  pub taken_waits : (phase now : ℕ) (answer : Took) → TakesBy x.frames phase now answer y.frames → KeepsWait x y
  taken_waits phase now (took.Batch time cs) t = keeps_same (ap (λ (f : Frames). f.scheduled) t.3) (ap (λ (f : Frames). f.asked) t.3)
  taken_waits phase now (took.Elsewhere next) t = keeps_all t.2
  taken_waits phase now took.NoMemory t = keeps_all t.1

  -- a pulse is delivered, or none is due
  pub pulsed_asks : (key : Constants) (pulse : Option ℕ) → y ≡ pulsed x pulse → AsksIfScheduled key x → AsksIfScheduled key y
  pulsed_asks key None is asks = subst (AsksIfScheduled key) (sym is) asks
  pulsed_asks key (Some stamp) is asks = λ n named any. absurd (true≢false (sym any ∙ ap (λ (z : StampedFrames). is_some z.frames.asked) is))

  -- no frame was to begin where a pulse came, since it was asked for
  pub pulsed_none : (now stamp : ℕ) → Some stamp ≡ delivered x.frames.asked now → awaits_frame x ≡ 0
  pulsed_none now stamp is =
      let asked = was_asked x.frames.asked now stamp is in ap (λ (o : Option ℕ). cond {A = ℕ} (x.frames.scheduled && is_none o) 1 0) asked.1 ∙ none_asked x.frames.scheduled asked.0

  -- and one is, since it was asked for a scheduled one
  pub pulsed_one : (now stamp : ℕ) → Some stamp ≡ delivered x.frames.asked now → y ≡ pulsed x (Some stamp) → (is_some x.frames.asked ≡ true → x.frames.scheduled ≡ true) → awaits_frame y ≡ 1
  pulsed_one now stamp is left if_asked =
      let asked = was_asked x.frames.asked now stamp is in
      ap awaits_frame left ∙ ap (λ b. cond {A = ℕ} (b && true) 1 0) (if_asked (ap is_some asked.1))

  -- a frame begins, or doesn't; where one pass alone delivers pulses, one was to begin
  pub begun_asks : (key : Constants) (start : ℕ) (answer : Beginning) → BeginsBy x.frames x.stamp start answer y.frames → ((n : ℕ) → key.pulses ≡ Some n → awaits_frame x ≡ 1)
      → AsksIfScheduled key x → AsksIfScheduled key y
  begun_asks key start (begin.Began time) b one asks = λ n named any.
      let none = (to_begin x.frames.scheduled x.frames.asked (one n named)).1 in
      absurd (true≢false (sym any ∙ (ap (λ (f : Frames). is_some f.asked) b.4 ∙ ap is_some none)))
  begun_asks key start (begin.Running next) b one asks = (keeps_all b.1).asks key asks
  begun_asks key start begin.Unscheduled b one asks = (keeps_all b.2).asks key asks
  begun_asks key start (begin.Backwards last) b one asks = λ n named any. ap (λ (f : Frames). f.scheduled) b.4 ∙ b.1
  begun_asks key start begin.NoMemory b one asks = (keeps_all b).asks key asks

  -- once it began, none is to begin
  pub begun_none : (start time : ℕ) → BeginsBy x.frames x.stamp start (begin.Began time) y.frames → awaits_frame y ≡ 0
  begun_none start time b = ap (λ (f : Frames). cond {A = ℕ} (f.scheduled && is_none f.asked) 1 0) b.4

  -- nor where it would have gone back, since the next pulse is asked for
  pub backwards_none : (start last : ℕ) → BeginsBy x.frames x.stamp start (begin.Backwards last) y.frames → awaits_frame y ≡ 0
  backwards_none start last b = ap (λ (f : Frames). cond {A = ℕ} (f.scheduled && is_none f.asked) 1 0) b.4 ∙ none_asked x.frames.scheduled (pulse x.frames.interval (max x.stamp start))

  -- where one is to begin, one is scheduled
  pub unscheduled_never : (start : ℕ) → BeginsBy x.frames x.stamp start begin.Unscheduled y.frames → awaits_frame x ≡ 1 → ⊥
  unscheduled_never start b one = true≢false (sym (to_begin x.frames.scheduled x.frames.asked one).0 ∙ b.1)
