-- What the turns of a pass record.
use Rattle.std.proofs.Common.{◌≡◌, ℕ, ◌+◌, Bool, true, false, Option, Some, None, List, [], ◌∷◌, ◌++◌, map, refl, sym, ap, ◌∙◌, arith, append_assoc, append-nil}
use Rattle.std.specs.Prelude.{count_by, if◌then◌else◌}
use Rattle.frame_phases.specs.declared.entry.Callback.{Callback}
use Rattle.frame_phases.specs.declared.entry.FrameEntry.{FrameEntry}
use Rattle.frame_phases.specs.declared.entry.FrameEntry.TheVariants.{Posted, Removed, Begin, Take, Ran}
use Rattle.frame_phases.specs.declared.entry.Beginning.TheVariants as begin
use Rattle.frame_phases.specs.declared.entry.Took.{Took}
use Rattle.frame_phases.specs.declared.entry.Took.TheVariants as took
use Rattle.frame_phases.specs.Pulses.{pulse}
use Rattle.frame_phases.specs.State.{Frames, ran, scheduled_at}
use Rattle.choreographer.specs.declared.state.StampedFrames.{StampedFrames}
use Rattle.choreographer.specs.declared.host.Sending.{Sending}
use Rattle.choreographer.specs.declared.hosted.Pulse.{Pulse}
use Rattle.choreographer.specs.Steps.{known_by}
use Rattle.choreographer.specs.Known.{Pass, IsFrameTurn}
use Rattle.choreographer.specs.Calls.{BeginTurn, AskedBy, SendsPulse, PulsedBy, DueBy, TakeTurn}
use Rattle.choreographer.specs.Done.{AreOfPhases, AddsPhases, AddsFrame, hands_out, HandsOutNone, TurnsForPhases}
use Rattle.std.specs.List.{filter_map, cons_option}
use Rattle.std.proofs.lemmas.List.Elements.{filter_map-append}
use Rattle.choreographer.proofs.Counting.{count_both, drop_prefix}

-- entries of phases behind such entries
phases_both : (xs ys : List FrameEntry) → AreOfPhases xs → AreOfPhases ys → AreOfPhases (xs ++ ys)
phases_both [] ys f g = g
phases_both (Posted c ∷ xs) ys f g = absurd f
phases_both (Removed p i t n ∷ xs) ys f g = absurd f
phases_both (Begin v s t ∷ xs) ys f g = absurd f
phases_both (Take p n t ∷ xs) ys f g = phases_both xs ys f g
phases_both (Ran n ∷ xs) ys f g = phases_both xs ys f g

ran_of_phases : (cs : List Callback) → AreOfPhases (map ran cs)
ran_of_phases [] = tt
ran_of_phases (c ∷ cs) = ran_of_phases cs

-- nothing is recorded
adds_none : (p : Pass) → AddsPhases p p
adds_none p = ([], sym (append-nil p.view.own), tt)

adds_trans : (before middle after : Pass) → AddsPhases before middle → AddsPhases middle after → AddsPhases before after
adds_trans before middle after f g = (
  f.0 ++ g.0,
  g.1 ∙ (ap (λ l. l ++ g.0) f.1 ∙ append_assoc before.view.own f.0 g.0),
  phases_both f.0 g.0 f.2 g.2,
)

-- a turn that leaves these entries behind those found
pub turn_records : (before after : Pass) (x y : StampedFrames) (more : List FrameEntry) → IsFrameTurn before after x y → x.frames.entries ++ more ≡ y.frames.entries → after.view.own ≡ before.view.own ++ more
turn_records before after x y more turn is = turn.own ∙ ap (λ l. before.view.own ++ l) (drop_prefix x.frames.entries more y.frames.entries is)

-- a turn that leaves the entries as they were
pub turn_records_none : (before after : Pass) (x y : StampedFrames) → IsFrameTurn before after x y → y.frames.entries ≡ x.frames.entries → after.view.own ≡ before.view.own
turn_records_none before after x y turn same = turn_records before after x y [] turn (append-nil x.frames.entries ∙ sym same) ∙ append-nil before.view.own

adds_these : (before after : Pass) (x y : StampedFrames) (more : List FrameEntry) → IsFrameTurn before after x y → x.frames.entries ++ more ≡ y.frames.entries → AreOfPhases more → AddsPhases before after
adds_these before after x y more turn is phases = (more, turn_records before after x y more turn is, phases)

adds_nothing : (before after : Pass) (x y : StampedFrames) → IsFrameTurn before after x y → y.frames ≡ x.frames → AddsPhases before after
adds_nothing before after x y turn same = adds_these before after x y [] turn (append-nil x.frames.entries ∙ sym (ap (λ (f : Frames). f.entries) same)) tt

-- the turn that begins a frame
pub begin_records : (before after : Pass) (start time : ℕ) → BeginTurn before after start (begin.Began time) → (stamp : ℕ) × (after.view.own ≡ before.view.own ++ Begin stamp start time ∷ [])
begin_records before after start time t = (t.0.stamp, turn_records before after t.0 t.1 (Begin t.0.stamp start time ∷ []) t.2 (sym (ap (λ (f : Frames). f.entries) t.3.4)))

-- a turn that begins none
pub running_records : (before after : Pass) (start next : ℕ) → BeginTurn before after start (begin.Running next) → after.view.own ≡ before.view.own
running_records before after start next t = turn_records_none before after t.0 t.1 t.2 (ap (λ (f : Frames). f.entries) t.3.1)

pub unscheduled_records : (before after : Pass) (start : ℕ) → BeginTurn before after start begin.Unscheduled → after.view.own ≡ before.view.own
unscheduled_records before after start t = turn_records_none before after t.0 t.1 t.2 (ap (λ (f : Frames). f.entries) t.3.2)

pub backwards_records : (before after : Pass) (start last : ℕ) → BeginTurn before after start (begin.Backwards last) → after.view.own ≡ before.view.own
backwards_records before after start last t = turn_records_none before after t.0 t.1 t.2 (ap (λ (f : Frames). f.entries) t.3.4)

pub wanting_records : (before after : Pass) (start : ℕ) → BeginTurn before after start begin.NoMemory → after.view.own ≡ before.view.own
wanting_records before after start t = turn_records_none before after t.0 t.1 t.2 (ap (λ (f : Frames). f.entries) t.3)

-- the turn that began a frame, and its phases
pub frame_records : (is_moment : ℕ → Bool) (before middle after : Pass) (start time : ℕ) → is_moment start ≡ true → BeginTurn before middle start (begin.Began time) → AddsPhases middle after
    → AddsFrame is_moment before after
frame_records is_moment before middle after start time moment t phases =
    let began = begin_records before middle start time t in
    (began.0, start, time, phases.0, moment, phases.1 ∙ (ap (λ l. l ++ phases.0) began.1 ∙ append_assoc before.view.own (Begin began.0 start time ∷ []) phases.0), phases.2)

-- the turn that takes a phase, or answers why not
pub take_adds : (before after : Pass) (phase now : ℕ) (result : Took) → TakeTurn before after phase now result → AddsPhases before after
take_adds before after phase now (took.Batch time cs) t = adds_these before after t.0 t.1 (Take phase now time ∷ map ran cs) t.2 (sym (ap (λ (f : Frames). f.entries) t.3.3)) (ran_of_phases cs)
take_adds before after phase now (took.Elsewhere next) t = adds_nothing before after t.0 t.1 t.2 t.3.2
take_adds before after phase now took.NoMemory t = adds_nothing before after t.0 t.1 t.2 t.3.1

-- ---- counted

-- the entries that a turn leaves behind those found
pub turn_counts : (test : FrameEntry → Bool) (before after : Pass) (x y : StampedFrames) (more : List FrameEntry) → IsFrameTurn before after x y → x.frames.entries ++ more ≡ y.frames.entries
    → count_by test after.view.own ≡ count_by test before.view.own + count_by test more
turn_counts test before after x y more turn is = ap (count_by test) (turn_records before after x y more turn is) ∙ count_both test before.view.own more

-- the turn that begins a frame hands no callback out, so the turns behind it hand out all
pub begin_hands : (before middle after : Pass) (start time : ℕ) → BeginTurn before middle start (begin.Began time) → HandsOutNone before after → HandsOutNone middle after
begin_hands before middle after start time t none =
    let began = turn_counts hands_out before middle t.0 t.1 (Begin t.0.stamp start time ∷ []) t.2 (sym (ap (λ (f : Frames). f.entries) t.3.4)) in omega (arith, began, none)

-- a turn that takes a phase and hands none out takes no callback
pub take_hands : (before after : Pass) (phase now time : ℕ) (cs : List Callback) → TakeTurn before after phase now (took.Batch time cs) → HandsOutNone before after → cs ≡ []
take_hands before after phase now time [] t none = refl
take_hands before after phase now time (c ∷ cs) t none =
    let more : List FrameEntry = map ran cs in
    let took = turn_counts hands_out before after t.0 t.1 (Take phase now time ∷ ran c ∷ more) t.2 (sym (ap (λ (f : Frames). f.entries) t.3.3)) in
    let handed : count_by hands_out (Take phase now time ∷ ran c ∷ more) ≡ 1 + count_by hands_out more = count_both hands_out (Take phase now time ∷ ran c ∷ []) more in
    absurd (omega (arith, took, handed, none))

-- what stays the same in each of two parts of a frame that hands no callback out stays so in both
same_by_both : {X : Type 0} (before middle after : Pass) (a b c : X) → AddsPhases before middle → AddsPhases middle after → (HandsOutNone before middle → b ≡ a) → (HandsOutNone middle after → c ≡ b)
    → HandsOutNone before after → c ≡ a
same_by_both before middle after a b c f g one other none =
    let early = ap (count_by hands_out) f.1 ∙ count_both hands_out before.view.own f.0 in
    let late = ap (count_by hands_out) g.1 ∙ count_both hands_out middle.view.own g.0 in
    other (omega (arith, early, late, none)) ∙ one (omega (arith, early, late, none))

-- no turn of a phase
pub turns_none : (p : Pass) (sends : List Sending) → TurnsForPhases p p sends sends
turns_none p sends = record { same = (refl, refl, refl); adds = adds_none p; sends = λ none. refl }

-- turns of phases behind such turns
pub turns_then : (before middle after : Pass) (a b c : List Sending) → TurnsForPhases before middle a b → TurnsForPhases middle after b c → TurnsForPhases before after a c
turns_then before middle after a b c p q = record {
  same = (q.same.0 ∙ p.same.0, q.same.1 ∙ p.same.1, q.same.2 ∙ p.same.2);
  adds = adds_trans before middle after p.adds q.adds;
  sends = same_by_both before middle after a b c p.adds q.adds p.sends q.sends;
}

-- a map that leaves phases out tells of a frame what it tells of its Begin
module _ {X : Type 0} (f : FrameEntry → Option X) (takes : (p n t : ℕ) → f (Take p n t) ≡ None) (runs : (n : ℕ) → f (Ran n) ≡ None) where
  phases_unmapped : (es : List FrameEntry) → AreOfPhases es → filter_map f es ≡ []
  phases_unmapped [] h = refl
  phases_unmapped (Posted c ∷ es) h = absurd h
  phases_unmapped (Removed p i t n ∷ es) h = absurd h
  phases_unmapped (Begin v s t ∷ es) h = absurd h
  phases_unmapped (Take p n t ∷ es) h = ap (λ o. cons_option o (filter_map f es)) (takes p n t) ∙ phases_unmapped es h
  phases_unmapped (Ran n ∷ es) h = ap (λ o. cons_option o (filter_map f es)) (runs n) ∙ phases_unmapped es h

  pub frame_tells : (is_moment : ℕ → Bool) (before after : Pass) (h : AddsFrame is_moment before after)
      → filter_map f after.view.own ≡ filter_map f before.view.own ++ cons_option (f (Begin h.0 h.1 h.2)) []
  frame_tells is_moment before after h =
      ap (filter_map f) h.5 ∙ (filter_map-append f before.view.own (Begin h.0 h.1 h.2 ∷ h.3)
      ∙ ap (λ l. filter_map f before.view.own ++ cons_option (f (Begin h.0 h.1 h.2)) l) (phases_unmapped h.3 h.6))

-- ---- calls that record nothing

pub asked_records : (before after : Pass) (result : Option ℕ) → AskedBy before after result → after.view.own ≡ before.view.own
asked_records before after result t = turn_records_none before after t.0 t.0 t.1 refl

pub pulse_leaves : (x y : StampedFrames) (now : ℕ) (sends sends' : List Sending) (result : Option Pulse) → SendsPulse x y now sends sends' result → y.frames.entries ≡ x.frames.entries
pulse_leaves x y now sends sends' None p = ap (λ (z : StampedFrames). z.frames.entries) p.1
pulse_leaves x y now sends sends' (Some q) p = ap (λ (z : StampedFrames). z.frames.entries) p.1

pub pulse_records : (before after : Pass) (is_moment : ℕ → Bool) (sends sends' : List Sending) (result : Option Pulse) → PulsedBy before after is_moment sends sends' result → after.view.own ≡ before.view.own
pulse_records before after is_moment sends sends' result t = turn_records_none before after t.0 t.1 t.3 (pulse_leaves t.0 t.1 t.2 sends sends' result t.5)

scheduled_leaves : (s : Frames) (b : Bool) (o : Option ℕ) → (if b then s else record s { scheduled = true; asked = o }).entries ≡ s.entries
scheduled_leaves s true o = refl
scheduled_leaves s false o = refl

pub due_leaves : (x : StampedFrames) (now : ℕ) (b : Bool) → (if b then record x { frames = scheduled_at x.frames now } else x).frames.entries ≡ x.frames.entries
due_leaves x now true = scheduled_leaves x.frames x.frames.scheduled (Some (pulse x.frames.interval now))
due_leaves x now false = refl

pub due_records : (before after : Pass) (is_moment : ℕ → Bool) (phase : ℕ) (result : Bool) → DueBy before after is_moment phase result → after.view.own ≡ before.view.own
due_records before after is_moment phase result t = let d = t.2 in turn_records_none before after d.0 d.1 d.2 (ap (λ (z : StampedFrames). z.frames.entries) d.4 ∙ due_leaves d.0 (known_by d.0 t.0) result)
