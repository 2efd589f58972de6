-- The stamp of the latest pulse, where one pass alone delivers them.
use Rattle.std.proofs.Common.{◌≡◌, ℕ, ◌+◌, Bool, true, false, Option, Some, None, List, [], ◌∷◌, ◌++◌, refl, sym, ap, ◌∙◌, subst, inl, inr, length, append-nil, append_assoc, eq-eqb}
use Rattle.std.specs.Prelude.{◌==◌}
use Rattle.std.specs.List.{list_any}
use Rattle.frame_phases.specs.declared.entry.FrameEntry.{FrameEntry}
use Rattle.frame_phases.specs.declared.entry.FrameEntry.TheVariants.{Posted, Removed, Begin, Take, Ran}
use Rattle.frame_phases.specs.declared.entry.Beginning.{Beginning}
use Rattle.frame_phases.specs.declared.entry.Beginning.TheVariants as begin
use Rattle.frame_phases.specs.declared.entry.Took.{Took}
use Rattle.frame_phases.specs.declared.entry.Took.TheVariants as took
use Rattle.frame_phases.specs.State.{Frames, delivered, TakesBy}
use Rattle.frame_phases.specs.Pulses.{comes_after_if_any}
use Rattle.choreographer.specs.Turn.{IsStamped, stamp_of, stamp_by, awaits_frame, awaits_by}
use Rattle.choreographer.specs.declared.state.StampedFrames.{StampedFrames}
use Rattle.choreographer.specs.declared.view.View.{View}
use Rattle.choreographer.specs.Client.{Run}
use Rattle.choreographer.specs.Frame.{Batch}
use Rattle.choreographer.specs.Known.{Pass, IfAlone, IsFrameTurn}
use Rattle.choreographer.specs.Steps.{pulsed}
use Rattle.choreographer.specs.Calls.{BeginTurn, TakeTurn, latest_stamp, GetsStamp, ComesAfter}
use Rattle.choreographer.specs.Done.{IsSamePass, TakesEach, GivenUpBy, AreOfPhases, AddsPhases, begins_apart, BeginsByStamp}
use Rattle.choreographer.proofs.Clock.{delivered_comes_after}
use Rattle.choreographer.proofs.Recorded.{turn_records}
use Rattle.choreographer.proofs.Waits.{taken_waits}

-- where the pass alone delivers pulses, it has as much of something as before
abbrev pub Keeps : (View → ℕ) → Pass → Pass → Type 0
Keeps share before after = IfAlone before (share after.view ≡ share before.view)

-- where the pass alone delivers pulses, its turn found as much of a measure as it had, and it has what its turn left
abbrev pub HasLeft : (StampedFrames → ℕ) → (View → ℕ) → Pass → Pass → StampedFrames → StampedFrames → Type 0
HasLeft measure share before after x y = IfAlone before ((measure x ≡ share before.view) × (share after.view ≡ measure y))

-- so it is with each turn, and a turn that takes a phase keeps the measure
pub record GoesOn (measure : StampedFrames → ℕ) (share : View → ℕ) : Type 0 where
  pub turn : (before after : Pass) (x y : StampedFrames) → IsFrameTurn before after x y → HasLeft measure share before after x y
  pub taken : (x y : StampedFrames) (phase now : ℕ) (result : Took) → TakesBy x.frames phase now result y.frames → y.stamp ≡ x.stamp → measure y ≡ measure x

pub stamp_goes_on : GoesOn stamp_of stamp_by
stamp_goes_on = record { turn = λ before after x y turn. turn.stamp; taken = λ x y phase now result takes same. same }

pub awaits_goes_on : GoesOn awaits_frame awaits_by
awaits_goes_on = record { turn = λ before after x y turn. turn.awaits; taken = λ x y phase now result takes same. (taken_waits x y phase now result takes).awaits }

-- a turn that leaves as much as it found
pub turn_keeps : (measure : StampedFrames → ℕ) (share : View → ℕ) (before after : Pass) (x y : StampedFrames) → HasLeft measure share before after x y → measure y ≡ measure x → Keeps share before after
turn_keeps measure share before after x y has same = λ c e named. let s = has c e named in s.1 ∙ (same ∙ s.0)

pub turn_same : (before after : Pass) (x y : StampedFrames) → IsFrameTurn before after x y → IsSamePass before after
turn_same before after x y turn = (turn.table, turn.number, turn.constants)

pub keeps_trans : (share : View → ℕ) (before middle after : Pass) → IsSamePass before middle → Keeps share before middle → Keeps share middle after → Keeps share before after
keeps_trans share before middle after same f g = λ c e named. g c (same.2 ∙ e) (named ∙ ap Some (sym same.1)) ∙ f c e named

-- a turn that delivers the pulse that is asked for, if it came
pub pulse_gets : (before after : Pass) (x y : StampedFrames) (came : Option ℕ) → IsFrameTurn before after x y → y ≡ pulsed x came → GetsStamp before after came
pulse_gets before after x y came turn is = λ c e named. let s = turn.stamp c e named in s.1 ∙ (ap (λ (z : StampedFrames). z.stamp) is ∙ by_pulse came s.0)
  where
    by_pulse : (o : Option ℕ) → x.stamp ≡ before.view.stamp → (pulsed x o).stamp ≡ latest_stamp o before.view.stamp
    by_pulse None same = same
    by_pulse (Some stamp) same = refl

-- such a pulse comes after the one before it
pub pulse_comes_after : (before after : Pass) (x y : StampedFrames) (now : ℕ) (came : Option ℕ) → IsFrameTurn before after x y → IsStamped x → came ≡ delivered x.frames.asked now → ComesAfter before came
pulse_comes_after before after x y now came turn stamped is = λ c e named.
    subst (λ (z : ℕ × Option ℕ). comes_after_if_any z.0 z.1 ≡ true) (λ i. ((turn.stamp c e named).0 i, sym is i)) (delivered_comes_after x.stamp now x.frames.asked stamped.asked)

pub begin_keeps : (before after : Pass) (start : ℕ) (result : Beginning) → BeginTurn before after start result → Keeps stamp_by before after
begin_keeps before after start result t = turn_keeps stamp_of stamp_by before after t.0 t.1 t.2.stamp t.4

each_same : (phase : ℕ) (bs : List Batch) (before after : Pass) → TakesEach phase bs before after → IsSamePass before after
each_same phase [] before after same = (ap (λ (p : Pass). p.table) same, ap (λ (p : Pass). p.number) same, ap (λ (p : Pass). p.view.constants) same)
each_same phase (b ∷ bs) before after (p, turn, rest) =
    let now = turn_same before p turn.0 turn.1 turn.2 in let later = each_same (phase + 1) bs p after rest in (later.0 ∙ now.0, later.1 ∙ now.1, later.2 ∙ now.2)

module _ (measure : StampedFrames → ℕ) (share : View → ℕ) (goes : GoesOn measure share) where
  take_keeps : (before after : Pass) (phase now : ℕ) (result : Took) → TakeTurn before after phase now result → Keeps share before after
  take_keeps before after phase now result t =
      turn_keeps measure share before after t.0 t.1 (goes.turn before after t.0 t.1 t.2) (goes.taken t.0 t.1 phase now result t.3 t.4)

  -- the phases of a frame
  pub each_keeps : (phase : ℕ) (bs : List Batch) (before after : Pass) → TakesEach phase bs before after → Keeps share before after
  each_keeps phase [] before after same = λ c e named. ap (λ (p : Pass). share p.view) same
  each_keeps phase (b ∷ bs) before after (p, turn, rest) = keeps_trans share before p after (turn_same before p turn.0 turn.1 turn.2)
      (take_keeps before p phase b.now (took.Batch b.time b.callbacks) turn) (each_keeps (phase + 1) bs p after rest)

  -- a frame that is given up
  pub given_up_keeps : (is_moment : ℕ → Bool) (middle after : Pass) (told told' : Option (List Run)) → GivenUpBy is_moment middle after told told' → Keeps share middle after
  given_up_keeps is_moment middle after told told' (batches, before, are, each, gives) =
      keeps_trans share middle before after (each_same 0 batches middle before each) (each_keeps 0 batches middle before each) (elim gives [
        | inl wanting ↦ take_keeps before after (length batches) wanting.0 took.NoMemory wanting.2
        | inr given ↦ take_keeps before after (length batches) given.0.now (took.Batch given.0.time given.0.callbacks) given.3
      ])

-- no entry of phases is a Begin
phases_begin_none : (stamp : ℕ) (es : List FrameEntry) → AreOfPhases es → list_any (begins_apart stamp) es ≡ false
phases_begin_none stamp [] h = refl
phases_begin_none stamp (Posted c ∷ es) h = absurd h
phases_begin_none stamp (Removed p i t n ∷ es) h = absurd h
phases_begin_none stamp (Begin v s t ∷ es) h = absurd h
phases_begin_none stamp (Take p n t ∷ es) h = phases_begin_none stamp es h
phases_begin_none stamp (Ran n ∷ es) h = phases_begin_none stamp es h

-- the turn that began a frame, and its phases
pub frame_begins : (before middle after : Pass) (start time : ℕ) → BeginTurn before middle start (begin.Began time) → AddsPhases middle after → Keeps stamp_by middle after → BeginsByStamp before after
frame_begins before middle after start time t adds keeps = λ c e named.
    let stamp = t.0.stamp in
    let began = turn_records before middle t.0 t.1 (Begin stamp start time ∷ []) t.2 (sym (ap (λ (f : Frames). f.entries) t.3.4)) in
    let same = turn_same before middle t.0 t.1 t.2 in
    let it : (stamp == before.view.stamp) ≡ true = eq-eqb stamp before.view.stamp (t.2.stamp c e named).0 in (
      Begin stamp start time ∷ adds.0,
      keeps_trans stamp_by before middle after same (begin_keeps before middle start (begin.Began time) t) keeps c e named,
      adds.1 ∙ (ap (λ l. l ++ adds.0) began ∙ append_assoc before.view.own (Begin stamp start time ∷ []) adds.0),
      rw (it, phases_begin_none before.view.stamp adds.0 adds.2) refl,
    )

-- a turn that began none
pub none_begins : (before after : Pass) (start : ℕ) (result : Beginning) → BeginTurn before after start result → after.view.own ≡ before.view.own → BeginsByStamp before after
none_begins before after start result t same = λ c e named. ([], begin_keeps before after start result t c e named, same ∙ sym (append-nil before.view.own), refl)
