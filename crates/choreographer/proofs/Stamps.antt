-- Each frame of a record begins with the stamp of a pulse, and what is asked for comes after the pulse that was kept.
use Rattle.std.proofs.Common.{◌≡◌, ℕ, ◌<◌, ◌≤◌, ◌/◌, Bool, true, false, List, [], ◌∷◌, ◌++◌, map, Option, Some, None, refl, sym, ap, ◌∙◌, subst, append-nil, arith}
use Rattle.std.specs.Prelude.{◌==◌, nat_lt, if◌then◌else◌, Result, Ok, Err, OnOk, OnErr}
use Rattle.std.proofs.lemmas.Bool.{and_parts}
use Rattle.std.proofs.Math.Bool.{or-true}
use Rattle.frame_phases.specs.declared.entry.FrameEntry.{FrameEntry}
use Rattle.frame_phases.specs.declared.entry.FrameEntry.TheVariants.{Posted, Removed, Begin, Take, Ran}
use Rattle.frame_phases.specs.declared.entry.Callback.{Callback}
use Rattle.loop_model.specs.declared.memory.NoMemory.{NoMemory}
use Rattle.frame_phases.specs.declared.entry.Scheduling.{Scheduling}
use Rattle.frame_phases.specs.declared.entry.Beginning.{Beginning}
use Rattle.frame_phases.specs.declared.entry.Beginning.TheVariants as begin
use Rattle.frame_phases.specs.declared.entry.Took.{Took}
use Rattle.frame_phases.specs.declared.entry.Took.TheVariants as took
use Rattle.frame_phases.specs.Pulses.{pulse, is_stamp, is_stamped, are_stamped, is_pulse_if_any, comes_after_if_any}
use Rattle.frame_phases.specs.State.{Frames, with_entry, scheduled_at, next_callback, removed, BeginsBy, TakesBy, Seals, ran, delivered}
use Rattle.frame_phases.proofs.Pulses.{next_comes_after}
use Rattle.choreographer.specs.declared.state.StampedFrames.{StampedFrames}
use Rattle.choreographer.specs.Frame.{IsQuiet}
use Rattle.choreographer.specs.Turn.{GoesWithClock, IsStamped}
use Rattle.choreographer.proofs.Clock.{goes_quietly, goes_begun, goes_taken, goes_pulsed, delivered_comes_after}
use Rattle.choreographer.specs.Steps.{StepsQuietly, pulsed, known_by}
use Rattle.choreographer.specs.Calls.{with_post}

both_stamped : (interval : ℕ) (xs ys : List FrameEntry) → are_stamped interval xs ≡ true → are_stamped interval ys ≡ true → are_stamped interval (xs ++ ys) ≡ true
both_stamped interval [] ys f g = g
both_stamped interval (x ∷ xs) ys f g =
    let p = and_parts (is_stamped interval x) (are_stamped interval xs) f in
    rw (p.0, both_stamped interval xs ys p.1 g) refl

quiet_stamped : (interval : ℕ) (es : List FrameEntry) → IsQuiet es → are_stamped interval es ≡ true
quiet_stamped interval [] q = refl
quiet_stamped interval (Posted c ∷ es) q = quiet_stamped interval es q
quiet_stamped interval (Removed p i t n ∷ es) q = quiet_stamped interval es q
quiet_stamped interval (Begin v s t ∷ es) q = absurd q
quiet_stamped interval (Take p n t ∷ es) q = absurd q
quiet_stamped interval (Ran n ∷ es) q = absurd q

ran_stamped : (interval : ℕ) (cs : List Callback) → are_stamped interval (map ran cs) ≡ true
ran_stamped interval [] = refl
ran_stamped interval (c ∷ cs) = ran_stamped interval cs

-- behind more entries, where the stamp that was kept is still one
module _ (x y : StampedFrames) (h : IsStamped x) where
  with_more : (more : List FrameEntry) → y.frames.interval ≡ x.frames.interval → x.frames.entries ++ more ≡ y.frames.entries → are_stamped x.frames.interval more ≡ true
      → is_stamp x.frames.interval y.stamp ≡ true → comes_after_if_any y.stamp y.frames.asked ≡ true → GoesWithClock x.frames.interval y.stamp (x.frames.entries ++ more) → IsStamped y
  with_more more same is stamped kept asked clock = record {
    kept = subst (λ (n : ℕ). is_stamp n y.stamp ≡ true) (sym same) kept;
    frames = subst (λ (z : ℕ × List FrameEntry). are_stamped z.0 z.1 ≡ true) (λ i. (sym same i, is i))
        (both_stamped x.frames.interval x.frames.entries more h.frames stamped);
    interval = subst (λ (n : ℕ). 0 < n) (sym same) h.interval;
    asked = asked;
    clock = subst (λ (z : ℕ × List FrameEntry). GoesWithClock z.0 y.stamp z.1) (λ i. (sym same i, is i)) clock;
  }

  -- the stamp is as it was
  by_stamp : (entries : List FrameEntry) → y.stamp ≡ x.stamp → GoesWithClock x.frames.interval x.stamp entries → GoesWithClock x.frames.interval y.stamp entries
  by_stamp entries same goes = subst (λ (n : ℕ). GoesWithClock x.frames.interval n entries) (sym same) goes

  quiet_clock : (more : List FrameEntry) → IsQuiet more → y.stamp ≡ x.stamp → GoesWithClock x.frames.interval y.stamp (x.frames.entries ++ more)
  quiet_clock more q same = by_stamp (x.frames.entries ++ more) same (goes_quietly x.frames.interval x.stamp x.frames.entries h.clock more q)

  -- what is asked for is as it was, and so is the stamp
  asks_same : y.frames.asked ≡ x.frames.asked → y.stamp ≡ x.stamp → comes_after_if_any y.stamp y.frames.asked ≡ true
  asks_same asked same = subst (λ (z : ℕ × Option ℕ). comes_after_if_any z.0 z.1 ≡ true) (λ i. (sym same i, sym asked i)) h.asked

  -- the pulse after a moment that is no earlier is asked for
  asks_next : (t : ℕ) → x.stamp ≤ t → y.frames.asked ≡ Some (pulse x.frames.interval t) → y.stamp ≡ x.stamp → comes_after_if_any y.stamp y.frames.asked ≡ true
  asks_next t le asked same =
      subst (λ (z : ℕ × Option ℕ). comes_after_if_any z.0 z.1 ≡ true) (λ i. (sym same i, sym asked i)) (next_comes_after x.frames.interval x.stamp t h.interval le)

  unchanged : y.frames ≡ x.frames → y.stamp ≡ x.stamp → IsStamped y
  unchanged frames same = record {
    kept = subst (λ (z : Frames × ℕ). is_stamp z.0.interval z.1 ≡ true) (λ i. (sym frames i, sym same i)) h.kept;
    frames = subst (λ (f : Frames). are_stamped f.interval f.entries ≡ true) (sym frames) h.frames;
    interval = subst (λ (f : Frames). 0 < f.interval) (sym frames) h.interval;
    asked = asks_same (ap (λ (f : Frames). f.asked) frames) same;
    clock = subst (λ (z : Frames × ℕ). GoesWithClock z.0.interval z.1 z.0.entries) (λ i. (sym frames i, sym same i)) h.clock;
  }

  -- callbacks are posted and removed
  stamped_quiet : StepsQuietly x y → y.stamp ≡ x.stamp → comes_after_if_any y.stamp y.frames.asked ≡ true → IsStamped y
  stamped_quiet q same asked = with_more q.1.0 q.0.1 q.1.1 (quiet_stamped x.frames.interval q.1.0 q.1.2) (subst (λ (n : ℕ). is_stamp x.frames.interval n ≡ true) (sym same) h.kept) asked (quiet_clock q.1.0 q.1.2 same)

  -- a frame is asked for at a moment that the state knows of
  asks_scheduled : (now : ℕ) → y.frames.asked ≡ (scheduled_at x.frames (known_by x now)).asked → y.stamp ≡ x.stamp → comes_after_if_any y.stamp y.frames.asked ≡ true
  asks_scheduled now is same = elim (x.frames.scheduled) as
      (λ (b : Bool). y.frames.asked ≡ (if b then x.frames else record x.frames { scheduled = true; asked = Some (pulse x.frames.interval (known_by x now)) }).asked → comes_after_if_any y.stamp y.frames.asked ≡ true) [
        | true ↦ λ e. asks_same e same
        | false ↦ λ e. asks_next (known_by x now) (omega arith) e same
      ] is

  -- a callback is posted, or no memory was found
  pub stamped_posted : (phase due id : ℕ) (token : Option ℕ) (now : ℕ) (result : Result Scheduling NoMemory) → OnOk result (y ≡ with_post x phase due id token now) → OnErr result (y ≡ x)
      → StepsQuietly x y → y.stamp ≡ x.stamp → IsStamped y
  stamped_posted phase due id token now (Ok r) is none q same = stamped_quiet q same (by_due (nat_lt (now / 1000000) due) refl (ap (λ (z : StampedFrames). z.frames.asked) is))
    where
      grown : Frames
      grown = with_entry x.frames (Posted (next_callback x.frames phase due id token))

      with_asked : (b : Bool) → (if b then grown else record grown { scheduled = true; asked = Some (pulse x.frames.interval (known_by x now)) }).asked
          ≡ (if b then x.frames else record x.frames { scheduled = true; asked = Some (pulse x.frames.interval (known_by x now)) }).asked
      with_asked true = refl
      with_asked false = refl

      by_test : (b : Bool) → y.frames.asked ≡ (if b then grown else scheduled_at grown (known_by x now)).asked → comes_after_if_any y.stamp y.frames.asked ≡ true
      by_test true e = asks_same e same
      by_test false e = asks_scheduled now (e ∙ with_asked x.frames.scheduled) same

      by_due : (b : Bool) → nat_lt (now / 1000000) due ≡ b
          → y.frames.asked ≡ (let at = (if b then now else known_by x now) in if nat_lt (at / 1000000) due then grown else scheduled_at grown at).asked
          → comes_after_if_any y.stamp y.frames.asked ≡ true
      by_due true later e = asks_same (e ∙ ap (λ (b : Bool). (if b then grown else scheduled_at grown now).asked) later) same
      by_due false soon e = by_test (nat_lt (known_by x now / 1000000) due) e
  stamped_posted phase due id token now (Err e) is none q same = stamped_quiet q same (asks_same (ap (λ (z : StampedFrames). z.frames.asked) none) same)

  -- callbacks are removed, or no memory was found
  pub stamped_removed : (phase id : ℕ) (token : Option ℕ) (result : Result ℕ NoMemory) → OnOk result (y ≡ record x { frames = removed x.frames phase id token }) → OnErr result (y ≡ x)
      → StepsQuietly x y → y.stamp ≡ x.stamp → IsStamped y
  stamped_removed phase id token (Ok n) is none q same = stamped_quiet q same (asks_same (ap (λ (z : StampedFrames). z.frames.asked) is) same)
  stamped_removed phase id token (Err e) is none q same = stamped_quiet q same (asks_same (ap (λ (z : StampedFrames). z.frames.asked) none) same)

  -- a frame is scheduled, or none is wanted
  pub stamped_due : (now : ℕ) (did : Bool) → y ≡ (if did then record x { frames = scheduled_at x.frames (known_by x now) } else x) → StepsQuietly x y → y.stamp ≡ x.stamp → IsStamped y
  stamped_due now true is q same = stamped_quiet q same (asks_scheduled now (ap (λ (z : StampedFrames). z.frames.asked) is) same)
  stamped_due now false is q same = stamped_quiet q same (asks_same (ap (λ (z : StampedFrames). z.frames.asked) is) same)

  -- entries are handed out
  pub stamped_sealed : (answer : Result (List FrameEntry) NoMemory) → Seals x.frames answer y.frames → y.stamp ≡ x.stamp → IsStamped y
  stamped_sealed (Ok part) seals same =
      with_more [] (ap (λ (f : Frames). f.interval) seals.1) (append-nil x.frames.entries ∙ sym (ap (λ (f : Frames). f.entries) seals.1)) refl
      (subst (λ (n : ℕ). is_stamp x.frames.interval n ≡ true) (sym same) h.kept) (asks_same (ap (λ (f : Frames). f.asked) seals.1) same) (quiet_clock [] tt same)
  stamped_sealed (Err e) same_frames same = unchanged same_frames same

  -- the pulse that is asked for is delivered, if it came
  pub stamped_pulse : (now : ℕ) (came : Option ℕ) → is_pulse_if_any x.frames.interval came ≡ true → came ≡ delivered x.frames.asked now → y ≡ pulsed x came → IsStamped y
  stamped_pulse now came is due same =
      by_pulse came is (subst (λ (o : Option ℕ). comes_after_if_any x.stamp o ≡ true) (sym due) (delivered_comes_after x.stamp now x.frames.asked h.asked)) same
    where
      by_pulse : (o : Option ℕ) → is_pulse_if_any x.frames.interval o ≡ true → comes_after_if_any x.stamp o ≡ true → y ≡ pulsed x o → IsStamped y
      by_pulse None is later same = subst IsStamped (sym same) h
      by_pulse (Some stamp) is later same =
          let kept : is_stamp x.frames.interval stamp ≡ true = rw (is, or-true (stamp == 0)) refl in
          subst IsStamped (sym same) (record {
            kept = kept;
            frames = h.frames;
            interval = h.interval;
            asked = refl;
            clock = goes_pulsed x.frames.interval x.stamp x.frames.entries h.clock stamp h.interval h.kept kept later;
          })

  -- a frame begins, with the stamp that was kept
  pub stamped_begin : (start : ℕ) (answer : Beginning) → BeginsBy x.frames x.stamp start answer y.frames → y.stamp ≡ x.stamp → IsStamped y
  stamped_begin start (begin.Began time) b same =
      with_more (Begin x.stamp start time ∷ []) (ap (λ (f : Frames). f.interval) b.4) (sym (ap (λ (f : Frames). f.entries) b.4)) (rw h.kept refl)
      (subst (λ (n : ℕ). is_stamp x.frames.interval n ≡ true) (sym same) h.kept) (asks_same (ap (λ (f : Frames). f.asked) b.4) same)
      (by_stamp (x.frames.entries ++ Begin x.stamp start time ∷ []) same (goes_begun x.frames.interval x.stamp start time x.frames.entries h.interval h.kept b.2))
  stamped_begin start (begin.Running next) b same = unchanged b.1 same
  stamped_begin start begin.Unscheduled b same = unchanged b.2 same
  stamped_begin start (begin.Backwards last) b same =
      with_more [] (ap (λ (f : Frames). f.interval) b.4) (append-nil x.frames.entries ∙ sym (ap (λ (f : Frames). f.entries) b.4)) refl
      (subst (λ (n : ℕ). is_stamp x.frames.interval n ≡ true) (sym same) h.kept) (asks_next (known_by x start) (omega arith) (ap (λ (f : Frames). f.asked) b.4) same) (quiet_clock [] tt same)
  stamped_begin start begin.NoMemory b same = unchanged b same

  -- a phase is taken
  pub stamped_take : (phase now : ℕ) (answer : Took) → TakesBy x.frames phase now answer y.frames → y.stamp ≡ x.stamp → IsStamped y
  stamped_take phase now (took.Batch time cs) t same =
      with_more (Take phase now time ∷ map ran cs) (ap (λ (f : Frames). f.interval) t.3) (sym (ap (λ (f : Frames). f.entries) t.3)) (ran_stamped x.frames.interval cs)
      (subst (λ (n : ℕ). is_stamp x.frames.interval n ≡ true) (sym same) h.kept) (asks_same (ap (λ (f : Frames). f.asked) t.3) same)
      (by_stamp (x.frames.entries ++ Take phase now time ∷ map ran cs) same (goes_taken x.frames.interval x.stamp x.frames.entries h.clock x.frames.phases phase now time cs h.interval t.2))
  stamped_take phase now (took.Elsewhere next) t same = unchanged t.2 same
  stamped_take phase now took.NoMemory t same = unchanged t.1 same
