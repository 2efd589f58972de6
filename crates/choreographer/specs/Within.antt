-- What the steps of a call leave: words of `begin_frame` and `take_phase`, and of private methods.
use Rattle.std.specs.Prelude.{◌≡◌, ℕ, ◌+◌, ◌==◌, Bool, true, if◌then◌else◌, IfOk, OnOk, OnErr, Result, Option, Some, None, List, [], ◌∷◌, ◌++◌}
use Rattle.std.specs.Prelude.{length, reverse}
use mathlib.Core.List.{IsPrefix}
use Rattle.loop_model.specs.declared.memory.NoMemory.{NoMemory}
use Rattle.frame_phases.specs.declared.entry.Scheduling.{Scheduling}
use Rattle.frame_phases.specs.declared.entry.Beginning.{Beginning}
use Rattle.frame_phases.specs.declared.entry.Beginning.TheVariants as begin
use Rattle.frame_phases.specs.declared.entry.Took.{Took}
use Rattle.frame_phases.specs.declared.entry.Took.TheVariants as took
use Rattle.frame_phases.specs.Frames.{next_phase, owed_callbacks}
use Rattle.frame_phases.specs.State.{scheduling, delivered}
use Rattle.choreographer.specs.declared.state.StampedFrames.{StampedFrames}
use Rattle.choreographer.specs.Client.{Run, with_runs}
use Rattle.choreographer.specs.Frame.{Batch, begin_place, ran_since, batches_since, progress}
use Rattle.choreographer.specs.Known.{SharedFrames, Pass, IsPassOf, MayDeliver, IsFrameTurn}
use Rattle.choreographer.specs.Steps.{pulsed, posting_moment}
use Rattle.choreographer.specs.Turn.{has_later}
use Rattle.choreographer.specs.Calls.{with_post, BeginTurn, TakeTurn, IfBackwards}
use Rattle.choreographer.specs.Done.{runs, runs_of, batch_numbers, IsBatch, AreBatches, IsSamePass, TakesPhase, TakesEach}

-- one turn that posts a callback
abbrev pub PostTurn : Pass → Pass → ℕ → ℕ → ℕ → Option ℕ → ℕ → Result Scheduling NoMemory → Type 0
PostTurn before after phase due id token now result = (x : StampedFrames) × (y : StampedFrames) × IsFrameTurn before after x y
    × IfOk result (λ r. r ≡ scheduling x.frames due (posting_moment x due now)) × OnOk result (y ≡ with_post x phase due id token now) × OnErr result (y ≡ x)

-- one turn that delivers a pulse
abbrev pub PulseTurn : Pass → Pass → ℕ → Option ℕ → Type 0
PulseTurn before after now result =
    (x : StampedFrames) × (y : StampedFrames) × IsFrameTurn before after x y × (result ≡ delivered x.frames.asked now) × (y ≡ pulsed x result)

-- a pass in a frame: the frame in progress is its own, and this phase is next; or no phase is left, and the frame is over
pub record InFrame (phases : ℕ) (p : Pass) (next : Option ℕ) : Type 0 where
  pub own : p.view.frame ≡ progress phases p.view.seen
  pub is_next : next_phase phases (reverse p.view.seen) ≡ next
  -- all callbacks that were taken stand as run
  pub settled : owed_callbacks (reverse p.view.seen) ≡ []
  -- its last turn left what it has seen
  pub left : (y : StampedFrames) × (p.view.left ≡ Some y) × (y.frames.entries ≡ p.view.seen)

-- where the pass has a frame in progress it has it still, and the same phase is next
abbrev pub StaysInFrame : ℕ → Pass → Pass → Type 0
StaysInFrame phases before after = (next : ℕ) → InFrame phases before (Some next) → InFrame phases after (Some next)

-- a pass of this choreographer may take this phase: it has the frame in progress, and may deliver pulses
pub record MayTake (q : SharedFrames) (phase : ℕ) (p : Pass) : Type 0 where
  pub pass : IsPassOf p q
  pub frame : InFrame q.constants.phases p (Some phase)
  pub delivers : MayDeliver p q

-- the next phase, or none behind the last
abbrev pub at_phase : ℕ → ℕ → Option ℕ
at_phase phases k = if k == phases then None else Some k

-- what some turns of a frame left: the phases below `done` are taken, and the callbacks of these batches stand as run
pub record PassRan (phases done count : ℕ) (before after : Pass) (batches : List Batch) : Type 0 where
  pub same : IsSamePass before after
  pub turns : after.view.turns ≡ before.view.turns + count
  pub grew : IsPrefix before.view.seen after.view.seen
  pub begin : begin_place (reverse after.view.seen) ≡ begin_place (reverse before.view.seen)
  pub ran : ran_since (reverse after.view.seen) ≡ ran_since (reverse before.view.seen) ++ batch_numbers batches
  pub taken : batches_since (reverse after.view.seen) ≡ batches_since (reverse before.view.seen) ++ batches
  pub frame : InFrame phases after (at_phase phases done)

-- one turn began a frame, or answered why not, at a moment of the host; it would go back only where the pass has then seen a later moment
abbrev pub BegunAt : (ℕ → Bool) → Pass → Pass → Beginning → Type 0
BegunAt is_moment before after result =
    (start : ℕ) × (is_moment start ≡ true) × BeginTurn before after start result × IfBackwards result (has_later start after.view.seen ≡ true)

-- what holds where a frame began
abbrev pub IfBegan : Beginning → Type 0 → Type 0
IfBegan (begin.Began time) P = P
IfBegan (begin.Running next) P = Unit {0}
IfBegan begin.Unscheduled P = Unit {0}
IfBegan (begin.Backwards last) P = Unit {0}
IfBegan begin.NoMemory P = Unit {0}

-- one turn took this batch of the phase at a moment of the host, and the next phase is next, or the frame is over
abbrev pub TakesBatch : (ℕ → Bool) → ℕ → ℕ → Batch → Pass → Pass → Type 0
TakesBatch is_moment phases phase b before after =
    IsBatch is_moment phase b × PassRan phases (phase + 1) 1 before after (b ∷ []) × TakesPhase phase b before after

-- one turn took the phase at a moment of the host, and answers its batch; or it found no memory, and the phase is next still; no frame is elsewhere
abbrev pub TakenAt : (ℕ → Bool) → ℕ → ℕ → Pass → Pass → Took → Type 0
TakenAt is_moment phases phase before after (took.Batch time callbacks) =
    (b : Batch) × (b.time ≡ time) × (b.callbacks ≡ callbacks) × TakesBatch is_moment phases phase b before after
TakenAt is_moment phases phase before after (took.Elsewhere next) = ⊥
TakenAt is_moment phases phase before after took.NoMemory =
    (now : ℕ) × (is_moment now ≡ true) × TakeTurn before after phase now took.NoMemory × InFrame phases after (Some phase)

-- one phase, with its one batch, which one turn took
abbrev pub PhaseRan : (ℕ → Bool) → ℕ → ℕ → Pass → Pass → Option (List Run) → Option (List Run) → Type 0
PhaseRan is_moment phases phase before after told told' =
    (b : Batch) × (told' ≡ with_runs told (runs b.time b.callbacks)) × TakesBatch is_moment phases phase b before after

-- the phases below `count`, one turn each
abbrev pub PhasesRan : (ℕ → Bool) → ℕ → ℕ → Pass → Pass → Option (List Run) → Option (List Run) → Type 0
PhasesRan is_moment phases count before after told told' =
    (batches : List Batch) × (told' ≡ with_runs told (runs_of batches)) × (length batches ≡ count) × AreBatches is_moment 0 batches
    × PassRan phases count count before after batches × TakesEach 0 batches before after
