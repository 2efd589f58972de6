-- How all queues' times were moved together so far, and to which time they may be moved next.
use Rattle.std.specs.Prelude.{◌≡◌, ◌<◌, ◌⊎◌, ℕ, true, false, List, map, length, slice_index_or, Some}
use Rattle.std.specs.Option.{option_map}
use Rattle.loop_model.specs.declared.entry.Entry.{Entry}
use Rattle.loop_model.specs.Base.{empty_base}
use Rattle.loop_model.specs.Items.{when_of}
use Rattle.loop_model.specs.Pick.{first_eligible}
use Rattle.loop_model.specs.Answers.{is_over}
use Rattle.dash_script.specs.declared.script.Script.{Script}
use Rattle.looper_run.specs.Holding.{Sender}
use Rattle.looper_run.specs.Round.{is_ended}
use Rattle.run_model.specs.Planned.{controller, sender_count}
use Rattle.run_model.specs.Control.{Move, moves, move_times, main_moves, is_planned_time, IsPulseTime, AreMovedTogether}
use Rattle.dash_loopers.specs.declared.looper.StageLooper.{StageLooper}
use Rattle.dash_loopers.specs.Loopers.{until_of}
use Rattle.dash_stage.specs.declared.control.Controller.{Controller}
use Rattle.dash_stage.specs.Timeliness.{whole_on, AreSound}

-- the moves of each queue's time so far, in order
abbrev pub moves_by : Script → Controller → List (List Move)
moves_by s c = map (λ (p : Sender). moves (controller s) p.view.seen) c.kit.posters.items

-- all queues were moved together, and each queue that is not over as often as main
pub record IsMovedTogether (s : Script) (c : Controller) : Type 0 where
  pub together : AreMovedTogether s (moves_by s c)
  pub going : (q : ℕ) (d : Sender) → q < length c.kit.posters.items → is_over (empty_base (sender_count s)) (whole_on c q d) ≡ false
      → move_times (moves (controller s) (whole_on c q d)) ≡ move_times (main_moves (moves_by s c))

-- so it is, where each queue's history is one that it may have
abbrev pub AreMoved : Script → Controller → Type 0
AreMoved s c = AreSound s c → IsMovedTogether s c

-- the first message that no barrier holds back is due at this time, on a queue that is not over
pub record IsFirstDue (senders time : ℕ) (es : List Entry) : Type 0 where
  pub going : is_over (empty_base senders) es ≡ false
  pub first : option_map when_of (first_eligible (empty_base senders) es) ≡ Some time

-- the queues' times may be moved to this one
pub data MayBeMovedTo (s : Script) (time : ℕ) (c : Controller) : Type 0 where
  -- a block has it, or the end
  IsPlanned : (is : is_planned_time s time ≡ true) → MayBeMovedTo s time c
  -- a pulse comes then
  IsPulse : (is : IsPulseTime s.period time) → MayBeMovedTo s time c
  -- a queue's first message is due then
  IsDue : (q : ℕ) → (known : q < length c.kit.posters.items) → (is : (d : Sender) → IsFirstDue (sender_count s) time (whole_on c q d)) → MayBeMovedTo s time c

-- the looper has not ended, and waits until this time
abbrev pub WaitsUntil : ℕ → StageLooper → Type 0
WaitsUntil time l = (is_ended l.last ≡ false) × (until_of l.last ≡ Some time)

-- this looper waits until this time, or a pulse may come then
abbrev pub IsAwaited : Script → ℕ → ℕ → List StageLooper → Type 0
IsAwaited s time looper ls = ((l : StageLooper) → WaitsUntil time (slice_index_or ls looper l)) ⊎ IsPulseTime s.period time
