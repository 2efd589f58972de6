-- How timely a run is so far, told by what all senders have seen of each queue.
use Rattle.std.specs.Prelude.{◌≡◌, ◌<◌, ◌≤◌, ◌⊎◌, ◌++◌, ℕ, true, false, List, [], ◌∷◌, map, length, slice_index_or, Option, Some, None}
use Rattle.std.specs.Option.{option_map}
use mathlib.Core.List.{IsPrefix}
use Rattle.loop_model.specs.declared.entry.Entry.{Entry}
use Rattle.loop_model.specs.declared.segment.Segment.{Segment}
use Rattle.loop_model.specs.declared.call.Call.TheVariants.{Advance}
use Rattle.loop_model.specs.Base.{empty_base}
use Rattle.loop_model.specs.Items.{when_of}
use Rattle.loop_model.specs.Pick.{first_eligible}
use Rattle.loop_model.specs.Answers.{clock, has_disposed, is_over, quit_place}
use Rattle.dash_script.specs.declared.script.Block.{Block}
use Rattle.dash_script.specs.declared.script.Script.{Script}
use Rattle.looper_run.specs.Holding.{Sender}
use Rattle.looper_run.specs.Round.{is_ended}
use Rattle.run_model.specs.Planned.{entries_by, controller, sender_count, lines_of, labels_on, lines_on}
use Rattle.run_model.specs.Run.{are_in_order}
use Rattle.run_model.specs.Control.{is_advance, is_halt, is_called_in_time, are_before_quit, is_none_before, befores, InBlock, are_on_time, ends_halted}
use Rattle.run_model.specs.Control.{AreReached}
use Rattle.dash_loopers.specs.declared.looper.StageLooper.{StageLooper}
use Rattle.dash_stage.specs.declared.control.Controller.{Controller}
use Rattle.dash_stage.specs.declared.stage.Stage.{Stage}
use Rattle.dash_hall.specs.Growth.{own}
use Rattle.dash_stage.specs.Controllers.{LooksFor, are_advances, time_in, calls_on}
use Rattle.dash_loopers.specs.Loopers.{IsSoundOn, until_of, WaitsForNothing, HasNoneDue, setting_for}
use Rattle.dash_stage.specs.Sharing.{HaveSeenTheSame}
use Rattle.loop_model.specs.Legal.{AreNumbered}

-- what the controller has seen of this queue, and all others where they have seen the same
abbrev pub whole_on : Controller → ℕ → Sender → List Entry
whole_on c q d = (slice_index_or c.kit.posters.items q d).view.seen

-- the controller's calls were in time, and each thread's calls for its lines of these blocks came in their blocks, in the order of these, and before the
-- controller's quit; and main's time was moved to the time of each of these blocks, but for one at the start
pub record IsTimelyUpTo (s : Script) (past : List Block) (q : ℕ) (es : List Entry) : Type 0 where
  pub controls : is_called_in_time (controller s) es ≡ true
  pub before_quit : are_before_quit s.threads (controller s) es ≡ true
  pub threads : (thread : ℕ) → thread < s.threads
      → are_on_time (map (λ l. InBlock l.time) (lines_on s (labels_on q (lines_of thread s.blocks)) q (lines_of thread past))) (befores thread es) ≡ true
  pub in_order : are_in_order s q es ≡ true
  pub reached : q ≡ 0 → AreReached past es

-- each queue's history is one that it may have
abbrev pub AreSound : Script → Controller → Type 0
AreSound s c = (q : ℕ) (d : Sender) → q < length c.kit.posters.items → IsSoundOn s q (whole_on c q d)

-- all senders have seen the same, and where each queue's history is one that it may have, so it is on each queue
pub record AreTimelyUpTo (s : Script) (past : List Block) (st : Stage) : Type 0 where
  pub same : HaveSeenTheSame st
  pub timely : AreSound s st.controller → (q : ℕ) (d : Sender) → q < length st.controller.kit.posters.items → IsTimelyUpTo s past q (whole_on st.controller q d)

-- the queue was disposed of, at this time or before
abbrev pub WasDisposedBy : ℕ → ℕ → List Entry → Type 0
WasDisposedBy senders time es = (has_disposed (empty_base senders) es ≡ true) × (clock (empty_base senders) es ≤ time)

-- the queue's time is this one, or the queue was disposed of by then
abbrev pub IsAtTime : ℕ → ℕ → List Entry → Type 0
IsAtTime senders time es = (clock (empty_base senders) es ≡ time) ⊎ WasDisposedBy senders time es

-- the controller has moved no queue past this time
abbrev pub AreBy : ℕ → Controller → Type 0
AreBy time c = (q : ℕ) (d : Sender) → q < length c.kit.posters.items → are_advances time (calls_on c q d) ≡ true

-- so it is with each looper
abbrev pub WaitForNothing : List StageLooper → Type 0
WaitForNothing ls = (k : ℕ) (d : StageLooper) → k < length ls → WaitsForNothing (slice_index_or ls k d).last

-- a looper that has not ended waits for the first message that no barrier holds back, of a queue that is neither over nor quitting, where no such message is
-- due yet, and one that has ended has seen its queue over
pub record IsRested (s : Script) (l : StageLooper) (es : List Entry) : Type 0 where
  pub quiet : is_ended l.last ≡ false → HasNoneDue (empty_base (sender_count s)) es (clock (empty_base (sender_count s)) es)
  pub waits : is_ended l.last ≡ false → until_of l.last ≡ option_map when_of (first_eligible (empty_base (sender_count s)) es)
  pub ended : is_ended l.last ≡ true → is_over (empty_base (sender_count s)) es ≡ true

abbrev pub AreRested : Script → Stage → Type 0
AreRested s st =
    (q : ℕ) (l : StageLooper) (d : Sender) → q < length st.loopers.items → IsRested s (slice_index_or st.loopers.items q l) (whole_on st.controller q d)

-- no message that may be dispatched is due before this time, on a queue that isn't quitting
abbrev pub HasNoneBefore : ℕ → ℕ → List Entry → Type 0
HasNoneBefore senders time es = (is_none_before time (first_eligible (empty_base senders) es) ≡ true) × (quit_place (empty_base senders) es ≡ None)

-- so it is with each queue, or the queue is over
abbrev pub AreDue : Script → ℕ → Stage → Type 0
AreDue s time st = (q : ℕ) (d : Sender) → q < length st.loopers.items
    → (is_over (empty_base (sender_count s)) (whole_on st.controller q d) ≡ true) ⊎ HasNoneBefore (sender_count s) time (whole_on st.controller q d)

-- the time is not later than this one, where there is one
abbrev pub NotLater : ℕ → Option ℕ → Type 0
NotLater time None = Unit {0}
NotLater time (Some due) = time ≤ due

-- the controller looked for this looper's pulse, and the answer is not later than the pulse that it found
pub record NotLaterThanPulse (looper : ℕ) (before after : Controller) (next : Option ℕ) : Type 0 where
  pub pulse : Option ℕ
  pub look : LooksFor looper before after pulse
  pub early : (t : ℕ) → NotLater t next → NotLater t pulse

-- unless this looper has ended, the answer is not later than the time until which it waits
abbrev pub NotLaterThanWait : ℕ → List StageLooper → Option ℕ → Type 0
NotLaterThanWait looper ls next =
    (t : ℕ) (l : StageLooper) → NotLater t next → is_ended (slice_index_or ls looper l).last ≡ false → NotLater t (until_of (slice_index_or ls looper l).last)

-- unless this looper has ended, the controller looked for its pulse, and the answer is not later
abbrev pub LooksUnlessEnded : ℕ → List StageLooper → Controller → Controller → Option ℕ → Type 0
LooksUnlessEnded looper ls before after next =
    (l : StageLooper) → is_ended (slice_index_or ls looper l).last ≡ false → NotLaterThanPulse looper before after next

-- by some turns a poster found a history, and left it as it was or made one entry more, which is such
pub record TurnsOn (P : Entry → Type 0) (before after : Sender) : Type 0 where
  pub found : List Entry
  pub begins : IsPrefix before.view.seen found
  pub made : entries_by before.sender found ≡ own before
  pub sender : after.sender ≡ before.sender
  pub step : (after.view.seen ≡ found) ⊎ ((e : Entry) × (after.view.seen ≡ found ++ e ∷ []) × P e × (e.sender ≡ before.sender))

-- so it is with each of the controller's posters
pub record EachTurnsOn (P : Entry → Type 0) (before after : Controller) : Type 0 where
  pub long : length after.kit.posters.items ≡ length before.kit.posters.items
  pub each : (q : ℕ) (d : Sender) → q < length before.kit.posters.items
      → TurnsOn P (slice_index_or before.kit.posters.items q d) (slice_index_or after.kit.posters.items q d)

-- the entry moves the time to this moment
abbrev pub MovesTo : ℕ → Entry → Type 0
MovesTo now e = e.call ≡ Advance now

-- the entry doesn't move the time
abbrev pub MovesNot : Entry → Type 0
MovesNot e = is_advance e.call ≡ false

-- the entry halts the queue
abbrev pub IsHaltEntry : Entry → Type 0
IsHaltEntry e = is_halt e.call ≡ true

-- there is no such entry
abbrev pub IsNoEntry : Entry → Type 0
IsNoEntry e = ⊥

-- by turns that made no entry a poster handed parts out, which stand behind those that it had handed out
pub record HandsPartsOut (before after : Sender) (had has : List Segment) : Type 0 where
  pub table : after.table ≡ before.table
  pub constants : after.view.constants ≡ before.view.constants
  pub called : own after ≡ own before
  pub turns : TurnsOn IsNoEntry before after
  pub parts : before.view.sealed ≡ had → after.view.sealed ≡ has

-- each queue's time has come to this one, or the queue is over
abbrev pub HaveReachedTime : Script → ℕ → Controller → Type 0
HaveReachedTime s now c =
    (q : ℕ) (d : Sender) → q < length c.kit.posters.items → (now ≤ time_in (calls_on c q d)) ⊎ (is_over (empty_base (sender_count s)) (whole_on c q d) ≡ true)

-- so it is with this queue
abbrev pub HasReachedTime : Script → ℕ → ℕ → Controller → Type 0
HasReachedTime s now place c = (d : Sender) → (now ≤ time_in (calls_on c place d)) ⊎ (is_over (empty_base (sender_count s)) (whole_on c place d) ≡ true)

-- main's history ends with its halt
abbrev pub HasHaltedLast : Script → Stage → Type 0
HasHaltedLast s st =
    (d : Sender) → 0 < length st.controller.kit.posters.items → AreNumbered (setting_for s 0) (empty_base (sender_count s)) (whole_on st.controller 0 d)
    → ends_halted (whole_on st.controller 0 d) ≡ true
