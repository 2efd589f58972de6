-- How far the loopers of a run have come, told by what all senders have seen of each queue.
use Rattle.std.specs.Prelude.{◌≡◌, ◌≢◌, ◌<◌, ◌⊎◌, ◌==◌, ◌&&◌, ℕ, true, not, is_some, false, List, [], map, length, slice_index_or}
use Rattle.loop_model.specs.declared.entry.Entry.{Entry}
use Rattle.loop_model.specs.Base.{empty_base}
use Rattle.loop_model.specs.Pick.{pick}
use Rattle.loop_model.specs.Answers.{clock, is_over}
use Rattle.dash_script.specs.declared.script.Script.{Script}
use Rattle.looper_run.specs.Holding.{Sender}
use Rattle.looper_run.specs.Round.{is_ended}
use Rattle.run_model.specs.Planned.{looper_sender, sender_count}
use Rattle.run_model.specs.Control.{Before, befores, befores_from, Timing, At, InBlock, Exactly, AnyTime, are_on_time, come_first}
use Rattle.run_model.specs.Loopers.{LooperState, first_looper}
use Rattle.run_model.specs.Parts.{sent_on}
use Rattle.dash_loopers.specs.declared.looper.StageLooper.{StageLooper}
use Rattle.dash_loopers.specs.Loopers.{HasRunInLockstep}
use Rattle.dash_loopers.specs.Played.{is_disposal, StandsBetweenRounds, HasPlayed, StandsBetweenLoops}
use Rattle.dash_hall.specs.Kits.{AreUnseen}
use Rattle.dash_stage.specs.declared.control.Controller.{Controller}
use Rattle.dash_stage.specs.declared.stage.Stage.{Stage}
use Rattle.dash_stage.specs.AtBlocks.{IsAtBlock}
use Rattle.dash_stage.specs.Sharing.{HaveSeenTheSame}
use Rattle.dash_stage.specs.Timeliness.{whole_on, AreSound, WasDisposedBy}

-- what stood before each call of a sender, but the looks that disposed of the queue
unfoldable pub befores_called : ℕ → List Entry → List Before
befores_called sender es = befores_from (λ e. e.sender == sender && not (is_disposal e)) [] es

-- a looper's call of this timing is on time where it comes at this time, on a queue whose clock is this
abbrev pub IsMet : ℕ → ℕ → Timing → Type 0
IsMet time clock (At t) = t ≡ time
IsMet time clock (InBlock t) = ⊥
IsMet time clock (Exactly t) = t ≡ clock
IsMet time clock AnyTime = ⊥

-- the calls of looper q that the state tells came at their times: on its own queue all but the looks that disposed of it, and on each other queue all
pub record AreCallsOnTime (s : Script) (c : Controller) (q : ℕ) (a : LooperState) : Type 0 where
  pub own : (d : Sender) → q < length c.kit.posters.items
      → are_on_time (map (λ x. x.timing) (sent_on q a.sent)) (befores_called (looper_sender s q) (whole_on c q d)) ≡ true
  pub elsewhere : (r : ℕ) (d : Sender) → r ≢ q → r < length c.kit.posters.items
      → are_on_time (map (λ x. x.timing) (sent_on r a.sent)) (befores (looper_sender s q) (whole_on c r d)) ≡ true

-- the looper stands at a state whose calls came at their times
pub record IsTimelyLooper (s : Script) (c : Controller) (l : StageLooper) : Type 0 where
  pub state : LooperState
  pub come : StandsBetweenRounds s l state
  pub on_time : AreCallsOnTime s c l.number state

-- so it is with each looper, where each queue's history is one that it may have
abbrev pub ArePlayed : Script → Stage → Type 0
ArePlayed s st =
    AreSound s st.controller → (k : ℕ) (d : StageLooper) → k < length st.loopers.items → IsTimelyLooper s st.controller (slice_index_or st.loopers.items k d)

-- each looper stands at the state before the first act
abbrev pub HaveBegun : Script → List StageLooper → Type 0
HaveBegun s ls = (k : ℕ) (d : StageLooper) → k < length ls → StandsBetweenRounds s (slice_index_or ls k d) (first_looper s)

-- by a clock each looper stands at a state to which its acts lead
abbrev pub EachStandsBetweenLoops : Script → List StageLooper → Type 0
EachStandsBetweenLoops s ls =
    (k : ℕ) (d : StageLooper) → k < length ls → (a : LooperState) × StandsBetweenLoops s (slice_index_or ls k d) a

-- the queue's clock shows this time, or its looper has ended and the queue was disposed of by then
abbrev pub IsInTime : Script → ℕ → StageLooper → List Entry → Type 0
IsInTime s time l es = (clock (empty_base (sender_count s)) es ≡ time) ⊎ ((is_ended l.last ≡ true) × WasDisposedBy (sender_count s) time es)

-- so it is with each queue at the stage's time
abbrev pub AreInTime : Script → Stage → Type 0
AreInTime s st =
    (q : ℕ) (l : StageLooper) (d : Sender) → q < length st.loopers.items → IsInTime s st.time (slice_index_or st.loopers.items q l) (whole_on st.controller q d)

-- where each queue's history is one that it may have, the threads' calls on each came first at their time
abbrev pub CallsCameFirst : Script → Stage → Type 0
CallsCameFirst s st =
    AreSound s st.controller → (q : ℕ) (d : Sender) → q < length st.controller.kit.posters.items → come_first s.threads (whole_on st.controller q d) ≡ true

-- each queue is as at the start of a block at this time
abbrev pub AreAtBlock : Script → ℕ → Stage → Type 0
AreAtBlock s time st = (q : ℕ) (d : Sender) → q < length st.controller.kit.posters.items → IsAtBlock s.threads time (whole_on st.controller q d)

-- this time is later than the stage's; or it is 0, and nobody has called so far
abbrev pub LiesAhead : ℕ → Stage → Type 0
LiesAhead time st = (st.time < time) ⊎ ((time ≡ 0) × AreUnseen st.controller.kit.posters.items)

-- all have seen the same, and where each queue's history is one that it may have, the queues are at the stage's time, each looper stands at a state whose calls
-- came at their times, and the threads' calls came first
pub record IsInStep (s : Script) (st : Stage) : Type 0 where
  pub same : HaveSeenTheSame st
  pub in_time : AreSound s st.controller → AreInTime s st
  pub played : ArePlayed s st
  pub first : CallsCameFirst s st

-- so it is, where each queue's history is one that it may have
abbrev pub AreAtBlockIfSound : Script → ℕ → Stage → Type 0
AreAtBlockIfSound s time st = AreSound s st.controller → AreAtBlock s time st

-- the looper is as it was, or ran a round at this moment and played on
abbrev pub PlaysOn : Script → ℕ → StageLooper → StageLooper → Type 0
PlaysOn s now before after = (after ≡ before) ⊎ (HasRunInLockstep s now before after × HasPlayed s now before after)

-- a message is due on the queue, which is not over and whose clock is before this time
pub record IsStuck (s : Script) (now : ℕ) (es : List Entry) : Type 0 where
  pub going : is_over (empty_base (sender_count s)) es ≡ false
  pub early : clock (empty_base (sender_count s)) es < now
  pub due : is_some (pick (empty_base (sender_count s)) es (clock (empty_base (sender_count s)) es)) ≡ true

-- so it is on one of the first queues
abbrev pub AreStuck : Script → ℕ → ℕ → Controller → Type 0
AreStuck s now n c = (q : ℕ) × (q < n) × ((d : Sender) → IsStuck s now (whole_on c q d))

-- so it is with each looper
abbrev pub EachPlaysOn : Script → ℕ → List StageLooper → List StageLooper → Type 0
EachPlaysOn s now before after = (k : ℕ) (d : StageLooper) → k < length before → PlaysOn s now (slice_index_or before k d) (slice_index_or after k d)
