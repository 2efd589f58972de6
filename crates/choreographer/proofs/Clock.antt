-- A frame goes back only behind a moment later than its start.
use Rattle.std.proofs.Common.{◌≡◌, ℕ, ◌<◌, ◌≤◌, ◌^◌, Bool, true, false, List, [], ◌∷◌, ◌++◌, map, reverse, Option, Some, None, refl, sym, ap, ◌∙◌, subst, arith}
use Rattle.std.specs.Prelude.{nat_le, nat_lt, if◌then◌else◌}
use Rattle.std.proofs.lemmas.Bool.{or_parts, or_from, ltb-false}
use Rattle.frame_phases.specs.declared.entry.Callback.{Callback}
use Rattle.frame_phases.specs.declared.entry.FrameEntry.{FrameEntry}
use Rattle.frame_phases.specs.declared.entry.FrameEntry.TheVariants.{Begin, Take}
use Rattle.frame_phases.specs.declared.entry.Beginning.{Beginning}
use Rattle.frame_phases.specs.declared.entry.Beginning.TheVariants as begin
use Rattle.frame_phases.specs.Frames.{frame_time, take_time, last_time}
use Rattle.frame_phases.specs.Pulses.{is_stamp, comes_after, comes_after_if_any}
use Rattle.frame_phases.specs.State.{Frames, BeginsBy, ran, delivered}
use Rattle.frame_phases.proofs.History.{past-push, last_time-take}
use Rattle.frame_phases.proofs.Rising.{time_rises, time_rises_after, take_at_most}
use Rattle.choreographer.specs.declared.state.StampedFrames.{StampedFrames}
use Rattle.choreographer.specs.Frame.{IsQuiet}
use Rattle.choreographer.specs.Turn.{is_moment_later, has_later, GoesWithClock, IsStamped}
use Rattle.choreographer.specs.Calls.{IfBackwards}
use Rattle.choreographer.proofs.Quiet.{quiet_same}

-- no moment of two lists is later
pub later_parts : (t : ℕ) (xs ys : List FrameEntry) → has_later t (xs ++ ys) ≡ false → (has_later t xs ≡ false) × (has_later t ys ≡ false)
later_parts t [] ys none = (refl, none)
later_parts t (x ∷ xs) ys none =
    let p = or_parts (is_moment_later t x) (has_later t (xs ++ ys)) none in
    let q = later_parts t xs ys p.1 in
    (or_from (is_moment_later t x) (has_later t xs) p.0 q.0, q.1)

-- before anything happened
pub goes_first : (interval : ℕ) → GoesWithClock interval 0 []
unfolding last_time
goes_first interval = λ t fits none. omega arith

module _ (interval stamp : ℕ) (xs : List FrameEntry) (goes : GoesWithClock interval stamp xs) where
  -- callbacks are posted and removed
  pub goes_quietly : (more : List FrameEntry) → IsQuiet more → GoesWithClock interval stamp (xs ++ more)
  unfolding last_time
  goes_quietly more q = λ t fits none.
      subst (λ (n : ℕ). n ≤ frame_time interval stamp t) (sym (quiet_same last_time (λ c past. refl) (λ p i o n past. refl) xs more q))
      (goes t fits (later_parts t xs more none).0)

  -- a phase is taken
  pub goes_taken : (phases phase now time : ℕ) (cs : List Callback) → 0 < interval → time ≡ take_time interval phases (reverse xs) phase now
      → GoesWithClock interval stamp (xs ++ Take phase now time ∷ map ran cs)
  goes_taken phases phase now time cs above is = λ t fits none.
      let p = later_parts t xs (Take phase now time ∷ map ran cs) none in
      let le : now ≤ t = ltb-false t now (or_parts (nat_lt t now) (has_later t (map ran cs)) p.1).0 in
      subst (λ (n : ℕ). n ≤ frame_time interval stamp t) (sym (last_time-take xs phase now time cs ∙ is))
      (take_at_most interval phases (reverse xs) phase now stamp t above le (goes t fits p.0))

  -- a pulse comes
  pub goes_pulsed : (came : ℕ) → 0 < interval → is_stamp interval stamp ≡ true → is_stamp interval came ≡ true → comes_after stamp came ≡ true → GoesWithClock interval came xs
  goes_pulsed came above kept is later = λ t fits none.
      let before = goes t fits none in
      let rises = time_rises_after interval stamp came t t above kept is (omega arith) fits later in
      omega (arith, before, rises)

  -- a frame that would go back
  pub later_than : (start : ℕ) → start < 2 ^ 64 → frame_time interval stamp start < last_time (reverse xs) → has_later start xs ≡ true
  later_than start fits back = by_test (has_later start xs) refl where
    by_test : (b : Bool) → has_later start xs ≡ b → b ≡ true
    by_test true e = refl
    by_test false e = let le = goes start fits e in absurd (omega (arith, le, back))

-- a frame begins
pub goes_begun : (interval stamp start time : ℕ) (xs : List FrameEntry) → 0 < interval → is_stamp interval stamp ≡ true → time ≡ frame_time interval stamp start
    → GoesWithClock interval stamp (xs ++ Begin stamp start time ∷ [])
unfolding last_time
goes_begun interval stamp start time xs above kept is = λ t fits none.
    let p = later_parts t xs (Begin stamp start time ∷ []) none in
    let le : start ≤ t = ltb-false t start (or_parts (nat_lt t start) false p.1).0 in
    subst (λ (n : ℕ). n ≤ frame_time interval stamp t) (sym (ap last_time (past-push xs (Begin stamp start time)) ∙ is))
    (time_rises interval stamp stamp start t above kept kept le fits (omega arith))

-- what is delivered comes after each moment that what was asked for comes after
pub delivered_comes_after : (stamp now : ℕ) (asked : Option ℕ) → comes_after_if_any stamp asked ≡ true → comes_after_if_any stamp (delivered asked now) ≡ true
delivered_comes_after stamp now None later = refl
delivered_comes_after stamp now (Some p) later = by_test (nat_le p now) where
  by_test : (b : Bool) → comes_after_if_any stamp (if b then Some p else None) ≡ true
  by_test true = later
  by_test false = refl

-- where a frame would go back, the record that was found, which is all that is seen then, has a moment later than its start
pub backs_late : (x y : StampedFrames) (start : ℕ) (seen : List FrameEntry) (answer : Beginning) → IsStamped x → start < 2 ^ 64 → BeginsBy x.frames x.stamp start answer y.frames
    → seen ≡ y.frames.entries → IfBackwards answer (has_later start seen ≡ true)
backs_late x y start seen (begin.Began time) h fits b is = tt
backs_late x y start seen (begin.Running next) h fits b is = tt
backs_late x y start seen begin.Unscheduled h fits b is = tt
backs_late x y start seen (begin.Backwards last) h fits b is =
    subst (λ (es : List FrameEntry). has_later start es ≡ true) (sym (is ∙ ap (λ (f : Frames). f.entries) b.4))
    (later_than x.frames.interval x.stamp x.frames.entries h.clock start fits (subst (λ (n : ℕ). frame_time x.frames.interval x.stamp start < n) b.2 b.3))
backs_late x y start seen begin.NoMemory h fits b is = tt
