-- What the pass that alone delivers pulses knows of a frame that is to begin.
use Rattle.std.proofs.Common.{◌≡◌, ℕ, List, Option, Some, None, refl, sym, ap, ◌∙◌}
use Rattle.std.specs.Prelude.{Bool, Result}
use Rattle.loop_model.specs.declared.memory.NoMemory.{NoMemory}
use Rattle.frame_phases.specs.declared.entry.FrameEntry.{FrameEntry}
use Rattle.frame_phases.specs.declared.entry.Beginning.TheVariants as begin
use Rattle.frame_phases.specs.State.{delivered}
use Rattle.choreographer.specs.declared.state.StampedFrames.{StampedFrames}
use Rattle.choreographer.specs.declared.view.Constants.{Constants}
use Rattle.choreographer.specs.Turn.{AsksIfScheduled, awaits_frame, awaits_by}
use Rattle.choreographer.specs.Known.{SharedFrames, Pass, IsPassOf, IfAlone, IsFrameTurn, MayBegin}
use Rattle.choreographer.specs.Steps.{pulsed}
use Rattle.choreographer.specs.Calls.{RemovedBy, AskedBy, DueTurn, BeginTurn, SealedBy, AwaitsBy, KnowsPulse}
use Rattle.choreographer.proofs.ByTurn.{same_key}
use Rattle.choreographer.proofs.Waits.{KeepsWait, removed_waits, due_waits, sealed_waits, keeps_all, pulsed_none, pulsed_one, begun_none, backwards_none, unscheduled_never}
use Rattle.choreographer.proofs.Latest.{Keeps, turn_keeps, turn_same}

-- a turn that keeps whether a frame is to begin
pub turn_waits : (before after : Pass) (x y : StampedFrames) → IsFrameTurn before after x y → KeepsWait x y → Keeps awaits_by before after
turn_waits before after x y turn keeps = turn_keeps awaits_frame awaits_by before after x y turn.awaits keeps.awaits

pub due_keeps : (before after : Pass) (phase now : ℕ) (result : Bool) → DueTurn before after phase now result → Keeps awaits_by before after
due_keeps before after phase now result t = turn_waits before after t.0 t.1 t.2 (due_waits t.0 t.1 now result t.4)

pub asked_keeps : (before after : Pass) (result : Option ℕ) → AskedBy before after result → Keeps awaits_by before after
asked_keeps before after result t = turn_waits before after t.0 t.0 t.1 (keeps_all t.0 t.0 refl)

pub removed_keeps : (before after : Pass) (phase id : ℕ) (token : Option ℕ) (result : Result ℕ NoMemory) → RemovedBy before after phase id token result → Keeps awaits_by before after
removed_keeps before after phase id token result t = turn_waits before after t.0 t.1 t.2 (removed_waits t.0 t.1 phase id token result t.4 t.5)

pub sealed_keeps : (before after : Pass) (result : Result (List FrameEntry) NoMemory) → SealedBy before after result → Keeps awaits_by before after
sealed_keeps before after result t = turn_waits before after t.0 t.1 t.2 (sealed_waits t.0 t.1 result t.3)

-- a turn that delivers the pulse that is asked for, if it came
pub pulse_awaits : (before after : Pass) (x y : StampedFrames) (now : ℕ) (came : Option ℕ) → IsFrameTurn before after x y → ((c : Constants) → before.view.constants ≡ Some c → AsksIfScheduled c x)
    → came ≡ delivered x.frames.asked now → y ≡ pulsed x came → AwaitsBy before after came
pulse_awaits before after x y now came turn asks is left = λ c e named. by_pulse came is left c e named
  where
    by_pulse : (o : Option ℕ) → o ≡ delivered x.frames.asked now → y ≡ pulsed x o → (c : Constants) → before.view.constants ≡ Some c → c.pulses ≡ Some before.number → KnowsPulse before after o
    by_pulse None due same c e named = turn_keeps awaits_frame awaits_by before after x y turn.awaits (ap awaits_frame same) c e named
    by_pulse (Some stamp) due same c e named =
        let s = turn.awaits c e named in
        (sym s.0 ∙ pulsed_none x y now stamp due, s.1 ∙ pulsed_one x y now stamp due same (asks c e before.number named))

-- where no pass is named that alone delivers pulses, any may deliver them and begin a frame
pub any_begins : (p : Pass) (q : SharedFrames) → IsPassOf p q → q.constants.pulses ≡ None → MayBegin p q
any_begins p q of_it none_named = (
  λ n named. let both : None ≡ Some n = sym none_named ∙ named in absurd (cc (both)),
  λ c e named.
      let same : q.constants ≡ c = same_key q.constants c p.view.constants of_it.1 e in
      let both : None ≡ Some p.number = sym none_named ∙ (ap (λ (k : Constants). k.pulses) same ∙ named) in absurd (cc (both)),
)

-- the pass that may begin a frame, or any other where none alone delivers pulses, finds one that is to begin
pub finds_one : (q : SharedFrames) (before after : Pass) (x y : StampedFrames) → IsFrameTurn before after x y → MayBegin before q → IfAlone before (awaits_frame x ≡ 1)
finds_one q before after x y turn may = λ c e named. (turn.awaits c e named).0 ∙ may.1 c e named

-- a frame that began, whose phases keep what is known
pub frame_ends_wait : (before middle after : Pass) (start time : ℕ) → BeginTurn before middle start (begin.Began time) → Keeps awaits_by middle after → IfAlone before (after.view.awaits ≡ 0)
frame_ends_wait before middle after start time t keeps = λ c e named.
    let same = turn_same before middle t.0 t.1 t.2 in
    keeps c (same.2 ∙ e) (named ∙ ap Some (sym same.1)) ∙ ((t.2.awaits c e named).1 ∙ begun_none t.0 t.1 start time t.3)

-- one that would have gone back
pub backwards_ends_wait : (before after : Pass) (start last : ℕ) → BeginTurn before after start (begin.Backwards last) → IfAlone before (after.view.awaits ≡ 0)
backwards_ends_wait before after start last t = λ c e named. (t.2.awaits c e named).1 ∙ backwards_none t.0 t.1 start last t.3

-- one that is in progress
pub running_waits : (before after : Pass) (start next : ℕ) → BeginTurn before after start (begin.Running next) → Keeps awaits_by before after
running_waits before after start next t = turn_waits before after t.0 t.1 t.2 (keeps_all t.0 t.1 t.3.1)

-- and none that is not scheduled
pub never_unscheduled : (q : SharedFrames) (before after : Pass) (start : ℕ) → MayBegin before q → BeginTurn before after start begin.Unscheduled → IfAlone before ⊥
never_unscheduled q before after start may t = λ c e named. unscheduled_never t.0 t.1 start t.3 (finds_one q before after t.0 t.1 t.2 may c e named)
