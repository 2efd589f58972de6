-- A frame is scheduled only where one was wanted.
use Rattle.std.proofs.Common.{◌≡◌, ℕ, ◌<◌, ◌≤◌, ◌*◌, ◌/◌, ◌^◌, Bool, true, false, true≢false, List, [], ◌∷◌, ◌++◌, map, reverse, Option, Some, None, refl, sym, ap, ◌∙◌, subst, append-nil, arith}
use Rattle.std.specs.Prelude.{max, not, nat_lt, nat_le, is_some, if◌then◌else◌, Result, Ok, Err, OnOk, OnErr}
use Rattle.std.specs.List.{list_any}
use Rattle.std.specs.Option.{option_map_or}
use Rattle.std.proofs.lemmas.Bool.{and_parts, ltb-false}
use Rattle.loop_model.specs.declared.memory.NoMemory.{NoMemory}
use Rattle.frame_phases.specs.declared.entry.FrameEntry.{FrameEntry}
use Rattle.frame_phases.specs.declared.entry.FrameEntry.TheVariants.{Posted, Removed, Take}
use Rattle.frame_phases.specs.declared.entry.Callback.{Callback}
use Rattle.frame_phases.specs.declared.entry.Scheduling.{Scheduling}
use Rattle.frame_phases.specs.declared.entry.Beginning.{Beginning}
use Rattle.frame_phases.specs.declared.entry.Beginning.TheVariants as begin
use Rattle.frame_phases.specs.declared.entry.Took.{Took}
use Rattle.frame_phases.specs.declared.entry.Took.TheVariants as took
use Rattle.frame_phases.specs.Frames.{is_due, live_callbacks, removed_count}
use Rattle.frame_phases.specs.Pulses.{pulse, wants_by, wanted_by}
use Rattle.frame_phases.specs.State.{Frames, past, with_entry, scheduled_at, next_callback, removed, delivered, ran, BeginsBy, TakesBy, Seals}
use Rattle.frame_phases.proofs.Wanted.{NoneBegins, ran_begin_none, wanted_now, wanted_on, wanted_later, posted_wants, due_wants, pulse_no_earlier}
use Rattle.choreographer.specs.declared.state.StampedFrames.{StampedFrames}
use Rattle.choreographer.specs.declared.view.Constants.{Constants}
use Rattle.choreographer.specs.Turn.{AsksIfScheduled, SchedulesIfWanted, next_pulse, awaits_frame}
use Rattle.choreographer.specs.Steps.{pulsed, known_by, wants_frame}
use Rattle.choreographer.specs.Known.{Pass, IsFrameTurn}
use Rattle.choreographer.specs.Calls.{with_post, WasWanted}
use Rattle.choreographer.proofs.Waits.{to_begin}

-- a pulse that is delivered is the one that is asked for
asked_for : (o : Option ℕ) (now stamp : ℕ) → Some stamp ≡ delivered o now → o ≡ Some stamp
asked_for None now stamp is = absurd (cc (is))
asked_for (Some p) now stamp is = by_test (nat_le p now) is
  where
    by_test : (b : Bool) → Some stamp ≡ (if b then Some p else None) → Some p ≡ Some stamp
    by_test true e = sym e
    by_test false e = absurd (cc (e))

module _ (key : Constants) (x y : StampedFrames) (was : SchedulesIfWanted key x) where
  -- what is scheduled and asked for stays, and no frame begins
  same_wanted : (more : List FrameEntry) → NoneBegins more → x.frames.entries ++ more ≡ y.frames.entries → y.frames.scheduled ≡ x.frames.scheduled → next_pulse y ≡ next_pulse x → SchedulesIfWanted key y
  same_wanted more none grew scheduled pulses = λ n named is.
      let before = was n named (sym scheduled ∙ is) in
      subst (λ (z : ℕ × List FrameEntry). wanted_by (z.0 / 1000000) (reverse z.1) ≡ true) (λ i. (sym pulses i, grew i)) (wanted_on (next_pulse x / 1000000) x.frames.entries more none before)

  pub all_wanted : y.frames ≡ x.frames → y.stamp ≡ x.stamp → SchedulesIfWanted key y
  all_wanted frames stamp = subst (λ (z : StampedFrames). SchedulesIfWanted key z) (λ i. record { frames = sym frames i; stamp = sym stamp i }) was

  -- a frame is scheduled now, by a pulse for which one is wanted
  now_wanted : (millis : ℕ) → wants_by millis (past y.frames) ≡ true → millis ≤ next_pulse y / 1000000 → SchedulesIfWanted key y
  now_wanted millis wants le = λ n named is. wanted_later millis (next_pulse y / 1000000) (past y.frames) le (wanted_now millis (past y.frames) wants)

  -- a callback is posted
  post_wanted : (phase due id : ℕ) (token : Option ℕ) (now : ℕ) → 0 < x.frames.interval → now < 2 ^ 64 → y ≡ with_post x phase due id token now → SchedulesIfWanted key y
  post_wanted phase due id token now above fits is = by_due (nat_lt (now / 1000000) due) refl frames_are
    where
      c : Callback
      c = next_callback x.frames phase due id token

      grown : Frames
      grown = with_entry x.frames (Posted c)

      known : ℕ
      known = known_by x now

      frames_are : y.frames ≡ (with_post x phase due id token now).frames
      frames_are = ap (λ (z : StampedFrames). z.frames) is

      stamp_is : y.stamp ≡ x.stamp
      stamp_is = ap (λ (z : StampedFrames). z.stamp) is

      unscheduled : y.frames ≡ grown → SchedulesIfWanted key y
      unscheduled e = same_wanted (Posted c ∷ []) tt (sym (ap (λ (f : Frames). f.entries) e)) (ap (λ (f : Frames). f.scheduled) e) (λ i. option_map_or (λ p. p) (e i).asked (stamp_is i))

      -- it is due, and a frame is scheduled unless one is
      by_scheduled : due ≤ now / 1000000 → (b : Bool) → y.frames ≡ (if b then grown else record grown { scheduled = true; asked = Some (pulse x.frames.interval known) }) → SchedulesIfWanted key y
      by_scheduled soon true e = unscheduled e
      by_scheduled soon false e =
          let entries : y.frames.entries ≡ x.frames.entries ++ Posted c ∷ [] = ap (λ (f : Frames). f.entries) e in
          let asks : next_pulse y ≡ pulse x.frames.interval known = λ i. option_map_or (λ p. p) (e i).asked (stamp_is i) in
          let no_earlier = pulse_no_earlier x.frames.interval known (due * 1000000) above (omega (arith, soon)) (omega (arith, soon, fits)) in
          now_wanted due (subst (λ l. wants_by due (reverse l) ≡ true) (sym entries) (posted_wants due x.frames.entries c (omega arith))) (omega (arith, asks, no_earlier))

      by_known : due ≤ now / 1000000 → (b : Bool) → y.frames ≡ (if b then grown else scheduled_at grown known) → SchedulesIfWanted key y
      by_known soon true e = unscheduled e
      by_known soon false e = by_scheduled soon x.frames.scheduled e

      by_due : (b : Bool) → nat_lt (now / 1000000) due ≡ b
          → y.frames ≡ (let at = (if b then now else known) in if nat_lt (at / 1000000) due then grown else scheduled_at grown at) → SchedulesIfWanted key y
      by_due true later e = unscheduled (e ∙ ap (λ (b : Bool). if b then grown else scheduled_at grown now) later)
      by_due false soon e = by_known (ltb-false (now / 1000000) due soon) (nat_lt (known / 1000000) due) e

  -- or no memory was found for it
  pub posted_wanted : (phase due id : ℕ) (token : Option ℕ) (now : ℕ) (result : Result Scheduling NoMemory) → 0 < x.frames.interval → now < 2 ^ 64
      → OnOk result (y ≡ with_post x phase due id token now) → OnErr result (y ≡ x) → SchedulesIfWanted key y
  posted_wanted phase due id token now (Ok r) above fits is none = post_wanted phase due id token now above fits is
  posted_wanted phase due id token now (Err e) above fits is none = subst (SchedulesIfWanted key) (sym none) was

  -- callbacks are removed, or no memory was found
  pub removed_wanted : (phase id : ℕ) (token : Option ℕ) (result : Result ℕ NoMemory) → OnOk result (y ≡ record x { frames = removed x.frames phase id token }) → OnErr result (y ≡ x) → SchedulesIfWanted key y
  removed_wanted phase id token (Ok n) is none =
      same_wanted (Removed phase id token (removed_count (past x.frames) phase id token) ∷ []) tt (ap (λ (z : StampedFrames). z.frames.entries) (sym is))
      (ap (λ (z : StampedFrames). z.frames.scheduled) is) (ap next_pulse is)
  removed_wanted phase id token (Err e) is none = subst (SchedulesIfWanted key) (sym none) was

  -- a frame is scheduled for a phase that has a due callback
  pub due_wanted : (phase now : ℕ) (did : Bool) → 0 < x.frames.interval → now < 2 ^ 64 → did ≡ wants_frame x phase now
      → y ≡ (if did then record x { frames = scheduled_at x.frames (known_by x now) } else x) → SchedulesIfWanted key y
  due_wanted phase now false above fits wants is = subst (SchedulesIfWanted key) (sym is) was
  due_wanted phase now true above fits wants is = by_scheduled x.frames.scheduled (ap (λ (z : StampedFrames). z.frames) is)
    where
      known : ℕ
      known = known_by x now

      by_scheduled : (b : Bool) → y.frames ≡ (if b then x.frames else record x.frames { scheduled = true; asked = Some (pulse x.frames.interval known) }) → SchedulesIfWanted key y
      by_scheduled true e = all_wanted e (ap (λ (z : StampedFrames). z.stamp) is)
      by_scheduled false e =
          let some_due = (and_parts (list_any (is_due phase (now / 1000000)) (live_callbacks (past x.frames))) (not x.frames.scheduled) (sym wants)).0 in
          let here : wants_by (now / 1000000) (past y.frames) ≡ true = subst (λ (f : Frames). wants_by (now / 1000000) (reverse f.entries) ≡ true) (sym e) (due_wants phase (now / 1000000) (past x.frames) some_due) in
          let asks : next_pulse y ≡ pulse x.frames.interval known = λ i. option_map_or (λ p. p) (e i).asked y.stamp in
          let no_earlier = pulse_no_earlier x.frames.interval known now above (omega arith) fits in
          now_wanted (now / 1000000) here (omega (arith, asks, no_earlier))

  -- entries are handed out
  pub sealed_wanted : (answer : Result (List FrameEntry) NoMemory) → Seals x.frames answer y.frames → y.stamp ≡ x.stamp → SchedulesIfWanted key y
  sealed_wanted (Ok part) seals stamp =
      same_wanted [] tt (append-nil x.frames.entries ∙ sym (ap (λ (f : Frames). f.entries) seals.1)) (ap (λ (f : Frames). f.scheduled) seals.1) (λ i. option_map_or (λ p. p) (seals.1 i).asked (stamp i))
  sealed_wanted (Err e) same stamp = all_wanted same stamp

  -- a phase is taken
  pub taken_wanted : (phase now : ℕ) (answer : Took) → TakesBy x.frames phase now answer y.frames → y.stamp ≡ x.stamp → SchedulesIfWanted key y
  taken_wanted phase now (took.Batch time cs) t stamp =
      same_wanted (Take phase now time ∷ map ran cs) (ran_begin_none cs) (sym (ap (λ (f : Frames). f.entries) t.3)) (ap (λ (f : Frames). f.scheduled) t.3) (λ i. option_map_or (λ p. p) (t.3 i).asked (stamp i))
  taken_wanted phase now (took.Elsewhere next) t stamp = all_wanted t.2 stamp
  taken_wanted phase now took.NoMemory t stamp = all_wanted t.1 stamp

  -- a pulse is delivered, or none is due
  pub pulsed_wanted : (now : ℕ) (came : Option ℕ) → came ≡ delivered x.frames.asked now → y ≡ pulsed x came → SchedulesIfWanted key y
  pulsed_wanted now None due is = subst (SchedulesIfWanted key) (sym is) was
  pulsed_wanted now (Some stamp) due is =
      let asked = asked_for x.frames.asked now stamp due in
      same_wanted [] tt (append-nil x.frames.entries ∙ ap (λ (z : StampedFrames). z.frames.entries) (sym is)) (ap (λ (z : StampedFrames). z.frames.scheduled) is)
      (ap next_pulse is ∙ ap (λ (o : Option ℕ). option_map_or (λ p. p) o x.stamp) (sym asked))

  -- a frame begins, or doesn't; where one pass alone delivers pulses, one was to begin
  pub begun_wanted : (start : ℕ) (answer : Beginning) → 0 < x.frames.interval → x.stamp < 2 ^ 64 → BeginsBy x.frames x.stamp start answer y.frames → y.stamp ≡ x.stamp
      → ((n : ℕ) → key.pulses ≡ Some n → awaits_frame x ≡ 1) → SchedulesIfWanted key y
  begun_wanted start (begin.Began time) above fits b stamp one = λ n named is. absurd (true≢false (sym is ∙ ap (λ (f : Frames). f.scheduled) b.4))
  begun_wanted start (begin.Running next) above fits b stamp one = all_wanted b.1 stamp
  begun_wanted start begin.Unscheduled above fits b stamp one = all_wanted b.2 stamp
  begun_wanted start (begin.Backwards last) above fits b stamp one = λ n named is.
      let none = (to_begin x.frames.scheduled x.frames.asked (one n named)).1 in
      let before = was n named b.1 in
      let had : next_pulse x ≡ x.stamp = ap (λ (o : Option ℕ). option_map_or (λ p. p) o x.stamp) none in
      let has : next_pulse y ≡ pulse x.frames.interval (max x.stamp start) = λ i. option_map_or (λ p. p) (b.4 i).asked y.stamp in
      let no_earlier = pulse_no_earlier x.frames.interval (max x.stamp start) x.stamp above (omega arith) fits in
      wanted_later (next_pulse x / 1000000) (next_pulse y / 1000000) (past y.frames) (omega (arith, had, has, no_earlier))
      (subst (λ (f : Frames). wanted_by (next_pulse x / 1000000) (reverse f.entries) ≡ true) (sym b.4) before)
  begun_wanted start begin.NoMemory above fits b stamp one = all_wanted b stamp

-- the turn that delivers the pulse that is asked for
pub pulse_wanted : (before after : Pass) (x y : StampedFrames) (now : ℕ) (came : Option ℕ) → IsFrameTurn before after x y → ((c : Constants) → before.view.constants ≡ Some c → AsksIfScheduled c x)
    → ((c : Constants) → before.view.constants ≡ Some c → SchedulesIfWanted c x) → came ≡ delivered x.frames.asked now → y ≡ pulsed x came → WasWanted before after came
pulse_wanted before after x y now None turn asks wanted due is = λ c e named. refl
pulse_wanted before after x y now (Some stamp) turn asks wanted due is = λ c e named.
    let asked = asked_for x.frames.asked now stamp due in
    let was = wanted c e before.number named (asks c e before.number named (ap is_some asked)) in
    let seen : x.frames.entries ≡ after.view.seen = ap (λ (z : StampedFrames). z.frames.entries) (sym is) ∙ sym turn.seen in
    subst (λ (z : Option ℕ × List FrameEntry). wanted_by (option_map_or (λ p. p) z.0 x.stamp / 1000000) (reverse z.1) ≡ true) (λ i. (asked i, seen i)) was
