-- Each frame takes each phase once.
use Rattle.std.proofs.Common.{◌≡◌, ℕ, suc, ◌+◌, ◌-◌, ◌<◌, Bool, true, false, Option, Some, None, List, [], ◌∷◌, ◌++◌, reverse, refl, sym, ap, ◌∙◌, subst, append_assoc, arith}
use Rattle.std.specs.Prelude.{◌==◌, ◌&&◌, nat_le, is_none, if◌then◌else◌}
use Rattle.std.specs.List.{range_with_len}
use Rattle.std.proofs.lemmas.Bool.{and_parts, cond_both, eqb-true, eqb-false}
use Rattle.loop_model.specs.Items.{is_just}
use Rattle.loop_model.proofs.Options.{none_is}
use Rattle.frame_phases.specs.declared.entry.FrameEntry.{FrameEntry}
use Rattle.frame_phases.specs.declared.entry.FrameEntry.TheVariants.{Posted, Removed, Begin, Take, Ran}
use Rattle.frame_phases.specs.Frames.{all_allowed, is_allowed, is_settled, next_phase, take_time, frame_time, last_time}
use Rattle.frame_phases.specs.EachPhase.{taken_first, has_begin, AreTaken, FramesTakeEachPhase}
use Rattle.frame_phases.proofs.History.{past-push, allowed_of}
use Rattle.frame_phases.proofs.Lifted.{number_is}
use Rattle.frame_phases.proofs.EndsOfFrames.{allowed_next}

taken-cons : (over : Bool) (p : ℕ) (takes all : List ℕ) → AreTaken over takes all → AreTaken over (p ∷ takes) (p ∷ all)
taken-cons true p takes all h = ap (λ l. p ∷ l) h
taken-cons false p takes all h = (h.0, ap (λ l. p ∷ l) h.1)

taken-none : (over : Bool) (takes : List ℕ) → AreTaken over takes [] → takes ≡ []
taken-none true takes h = h
taken-none false [] h = refl
taken-none false (p ∷ takes) h = absurd (cc (h.1))

-- the phases that a frame has yet to take
abbrev to_take : ℕ → Option ℕ → List ℕ
to_take phases None = []
to_take phases (Some next) = range_with_len next (phases - next)

-- the next phase is one of them
abbrev IsBelow : ℕ → Option ℕ → Type 0
IsBelow phases None = Unit {0}
IsBelow phases (Some next) = next < phases

abbrev following : ℕ → ℕ → Option ℕ
following phases phase = if phase + 1 == phases then None else Some (phase + 1)

below_following : (phases phase : ℕ) → phase < phases → IsBelow phases (following phases phase)
below_following phases phase l =
    cond_both (phase + 1 == phases) None (Some (phase + 1)) (IsBelow phases) (λ e. tt)
    (λ e. let apart = eqb-false (phase + 1) phases e in omega (arith, apart))

to_take_following : (phases phase : ℕ) → phase < phases → phase ∷ to_take phases (following phases phase) ≡ range_with_len phase (phases - phase)
to_take_following phases phase l =
    cond_both (phase + 1 == phases) None (Some (phase + 1)) (λ o. phase ∷ to_take phases o ≡ range_with_len phase (phases - phase))
    (λ e.
    let same : phase + 1 ≡ phases = eqb-true (phase + 1) phases e in
    let one : 1 ≡ phases - phase = omega (arith, same) in
    ap (range_with_len phase) one)
    (λ e.
    let more : suc (phases - (phase + 1)) ≡ phases - phase = omega arith in
    ap (range_with_len phase) more)

module _ (interval phases : ℕ) where
  next_of_begin : (seen : List FrameEntry) (v s t : ℕ) → is_allowed interval phases (reverse seen) (Begin v s t) ≡ true → next_phase phases (reverse seen) ≡ None
  unfolding is_allowed
  next_of_begin seen v s t h =
      let past = reverse seen in
      let first = (and_parts (is_settled past && is_none (next_phase phases past) && (t == frame_time interval v s)) (nat_le (last_time past) t) h).0 in
      let second = (and_parts (is_settled past && is_none (next_phase phases past)) (t == frame_time interval v s) first).0 in
      none_is (next_phase phases past) (and_parts (is_settled past) (is_none (next_phase phases past)) second).1

  next_of_take : (seen : List FrameEntry) (p n t : ℕ) → is_allowed interval phases (reverse seen) (Take p n t) ≡ true → next_phase phases (reverse seen) ≡ Some p
  unfolding is_allowed
  next_of_take seen p n t h =
      let past = reverse seen in
      let first = (and_parts (is_settled past && is_just (next_phase phases past) p) (t == take_time interval phases past p n) h).0 in
      number_is (next_phase phases past) p (and_parts (is_settled past) (is_just (next_phase phases past) p) first).1

  pushed : (seen more : List FrameEntry) (e : FrameEntry) → all_allowed interval phases (reverse (seen ++ e ∷ more)) ≡ true → all_allowed interval phases (reverse ((seen ++ e ∷ []) ++ more)) ≡ true
  pushed seen more e h = subst (λ l. all_allowed interval phases (reverse l) ≡ true) (sym (append_assoc seen (e ∷ []) more)) h

  -- what follows takes the phases that are left
  takes_rest : (seen more : List FrameEntry) (next : Option ℕ) → next_phase phases (reverse seen) ≡ next → IsBelow phases next
      → all_allowed interval phases (reverse (seen ++ more)) ≡ true → AreTaken (has_begin more) (taken_first more) (to_take phases next)
  unfolding taken_first has_begin next_phase
  takes_rest seen [] next is below h = (to_take phases next, refl)
  takes_rest seen (Posted c ∷ more) next is below h =
      takes_rest (seen ++ Posted c ∷ []) more next (ap (next_phase phases) (past-push seen (Posted c)) ∙ is) below (pushed seen more (Posted c) h)
  takes_rest seen (Removed p i t n ∷ more) next is below h =
      takes_rest (seen ++ Removed p i t n ∷ []) more next (ap (next_phase phases) (past-push seen (Removed p i t n)) ∙ is) below (pushed seen more (Removed p i t n) h)
  takes_rest seen (Begin v s t ∷ more) next is below h =
      let none : None ≡ next = sym (next_of_begin seen v s t (allowed_next interval phases seen more (Begin v s t) h)) ∙ is in
      ap (to_take phases) none
  takes_rest seen (Take p n t ∷ more) next is below h =
      let here : Some p ≡ next = sym (next_of_take seen p n t (allowed_next interval phases seen more (Take p n t) h)) ∙ is in
      let low : p < phases = subst (IsBelow phases) (sym here) below in
      let rest = takes_rest (seen ++ Take p n t ∷ []) more (following phases p) (ap (next_phase phases) (past-push seen (Take p n t))) (below_following phases p low) (pushed seen more (Take p n t) h) in
      subst (AreTaken (has_begin more) (p ∷ taken_first more)) (to_take_following phases p low ∙ ap (to_take phases) here)
      (taken-cons (has_begin more) p (taken_first more) (to_take phases (following phases p)) rest)
  takes_rest seen (Ran n ∷ more) next is below h =
      takes_rest (seen ++ Ran n ∷ []) more next (ap (next_phase phases) (past-push seen (Ran n)) ∙ is) below (pushed seen more (Ran n) h)

  takes_behind : (before after : List FrameEntry) (v s t : ℕ) → 0 < phases → all_allowed interval phases (reverse (before ++ Begin v s t ∷ after)) ≡ true
      → AreTaken (has_begin after) (taken_first after) (range_with_len 0 phases)
  unfolding next_phase
  takes_behind before after v s t above h =
      let all : phases - 0 ≡ phases = omega arith in
      subst (λ n. AreTaken (has_begin after) (taken_first after) (range_with_len 0 n)) all
      (takes_rest (before ++ Begin v s t ∷ []) after (Some 0) (ap (next_phase phases) (past-push before (Begin v s t))) above (pushed before after (Begin v s t) h))

pub frames_take_each_phase : FramesTakeEachPhase
unfolding next_phase
frames_take_each_phase interval phases entries above h =
    let allowed = allowed_of interval phases entries h in (
      taken-none (has_begin entries) (taken_first entries) (takes_rest interval phases [] entries None refl tt allowed),
      λ before after v s t e. takes_behind interval phases before after v s t above (subst (λ l. all_allowed interval phases (reverse l) ≡ true) (sym e) allowed),
    )
