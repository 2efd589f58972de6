-- What stands before and behind a call of a dispatcher.
use Rattle.std.specs.Prelude.{◌≡◌, ℕ, List, Option, Some, None, false, slice_get}
use Rattle.atomic_table.specs.Seated.{TableId}
use Rattle.loop_model.specs.declared.journal.Act.{Act}
use Rattle.loop_model.specs.declared.journal.Route.{Route}
use Rattle.loop_model.specs.declared.entry.Entry.{Entry}
use Rattle.message_slot.specs.Letter.{number_in}
use Rattle.message_slot.specs.Fields.{callback_of}
use Rattle.message_pool.specs.Passes.{Claimed, Node}
use Rattle.shared_queue.specs.Known.{Shared}
use Rattle.looper_run.specs.Holding.{Holding, Looping, Workplace, workplace, IsAt}
use Rattle.looper_run.specs.Tests.{Passes, PassesWith, HasTakenMessage, SawClaim, IsUntouched}
use Rattle.looper_run.specs.Told.{IsRouteOf}

-- between two dispatches: the dispatcher awaits none, and its test is true of the looper
pub record RestsBetween {D : Type 0} (Awaiting : D → Option ℕ → Type 0) (Passing : D → ℕ → List Entry → List Act → Type 0) (d : D) (h : Holding) : Type 0 where
  pub awaits : Awaiting d None
  pub meets : Passes (Passing d) h

-- the same, of a queue and a pool that the dispatcher serves
pub record ServesBetween {D : Type 0} (Works : D → Workplace → Type 0) (Awaiting : D → Option ℕ → Type 0) (Passing : D → ℕ → List Entry → List Act → Type 0)
    (d : D) (h : Holding) : Type 0 where
  pub serves : Works d (workplace h)
  pub awaits : Awaiting d None
  pub meets : Passes (Passing d) h

-- no round has ended the looper, which is at this queue and this pool
pub record MayRun (queue : Shared TableId) (pool : TableId) (l : Looping) : Type 0 where
  pub going : l.ended ≡ false
  pub at : IsAt queue pool l.held

-- the looper took this message last, whose claim its poster saw accepted with its number, and none is awaited
pub record HasToDispatch {D : Type 0} (Works : D → Workplace → Type 0) (Awaiting : D → Option ℕ → Type 0) (Passing : D → ℕ → List Entry → List Act → Type 0)
    (d : D) (h : Holding) (n : ℕ) (m : Node) (now : ℕ) : Type 0 where
  pub serves : Works d (workplace h)
  pub awaits : Awaiting d None
  pub taken : HasTakenMessage (Passing d) h m now
  pub number : n ≡ number_in m.item
  pub claim : slice_get h.poster.view.claims n ≡ Some m.claim

-- the looper took this message last, which has such a callback and is awaited, and what is held of it is held of its claim
pub record HasToRoute {D : Type 0} (Works : D → Workplace → Type 0) (Awaiting : D → Option ℕ → Type 0) (Holds : D → Option Claimed → Type 0)
    (Passing : D → ℕ → List Entry → List Act → Type 0) (d : D) (h : Holding) (m : Node) (now : ℕ) (by : Option ℕ) : Type 0 where
  pub serves : Works d (workplace h)
  pub awaits : Awaiting d (Some (number_in m.item))
  pub took : SawClaim (Holds d) h.poster m
  pub taken : HasTakenMessage (Passing d) h m now
  pub callback : callback_of m.item ≡ by

-- the message went by this route: none is awaited, and the test is true once that is told
pub record HasRouted {D : Type 0} (Awaiting : D → Option ℕ → Type 0) (Passing : D → ℕ → List Entry → List Act → Type 0) (d : D) (h : Holding) (m : Node)
    (now : ℕ) (route : Route) : Type 0 where
  pub awaits : Awaiting d None
  pub meets : PassesWith (Passing d) h m now route

-- the message, which has such a callback, went by a route that is one of its own
pub record IsRouted {D : Type 0} (Awaiting : D → Option ℕ → Type 0) (Passing : D → ℕ → List Entry → List Act → Type 0) (d : D) (h : Holding) (m : Node)
    (now : ℕ) (by : Option ℕ) (route : Route) : Type 0 where
  pub is_route : IsRouteOf by route
  pub routed : HasRouted Awaiting Passing d h m now route

-- the message is left to the handler: it is awaited still, what was held of a claim still is, and nothing was touched
pub record LeavesTaken {D : Type 0} (Awaiting : D → Option ℕ → Type 0) (Holds : D → Option Claimed → Type 0)
    (Passing : D → ℕ → List Entry → List Act → Type 0) (before after : D) (h h' : Holding) (m : Node) (now : ℕ) : Type 0 where
  pub awaits : Awaiting after (Some (number_in m.item))
  pub took : (claim : Option Claimed) → Holds before claim → Holds after claim
  pub untouched : IsUntouched h h'
  pub taken : HasTakenMessage (Passing after) h' m now
