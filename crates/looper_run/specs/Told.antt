-- What becomes of a message that a looper took.
use Rattle.std.specs.Prelude.{◌≡◌, ℕ, ◌<◌, ◌^◌, ◌⊎◌, List, [], ◌∷◌, ◌++◌, length, Option, Some, None}
use Rattle.loop_model.specs.declared.journal.Act.TheVariants.{Dispatch}
use Rattle.loop_model.specs.declared.journal.Route.{Route}
use Rattle.loop_model.specs.declared.journal.Route.TheVariants.{Callback, Intercepted, Handled}
use Rattle.message_slot.specs.Letter.{number_in}
use Rattle.message_slot.specs.Fields.{callback_of}
use Rattle.message_pool.specs.Passes.{Node, Tally}
use Rattle.message_pool.specs.Obtain.{IsReturned}
use Rattle.looper_run.specs.Holding.{Holding}
use Rattle.looper_run.specs.Tests.{IsLent}

-- a message with a callback goes to that, and another to the handler or its callback object
abbrev pub IsRouteOf : Option ℕ → Route → Type 0
IsRouteOf None route = (route ≡ Intercepted) ⊎ (route ≡ Handled)
IsRouteOf (Some id) route = route ≡ Callback id

-- the message was dispatched by its route, and then told as one act
pub record IsTold (before after : Holding) (m : Node) (now : ℕ) : Type 0 where
  -- what the dispatcher left
  pub left : Holding
  pub route : Route
  pub lent : IsLent before left
  pub is_route : IsRouteOf (callback_of m.item) route
  pub poster : after.poster ≡ left.poster
  pub pass : after.pass ≡ left.pass
  pub looper : after.journal.looper ≡ left.journal.looper
  pub acts : after.journal.acts ≡ left.journal.acts ++ Dispatch (number_in m.item) now route ∷ []
  pub fits : length after.journal.acts < 2 ^ 64

-- the message was recycled
pub record IsRecycled (before after : Holding) (m : Node) : Type 0 where
  pub poster : after.poster ≡ before.poster
  pub journal : after.journal ≡ before.journal
  pub home : after.pass.home ≡ before.pass.home
  pub returned : IsReturned m.claim before.pass after.pass

-- the message was dispatched, told, and then recycled
abbrev pub Dispatches : Holding → Holding → Node → ℕ → Type 0
Dispatches before after m now = (told : Holding) × IsTold before told m now × IsRecycled told after m

-- memory ran out in the dispatch of the message, which was recycled all the same
abbrev pub GivesBack : Holding → Holding → Node → Type 0
GivesBack before after m = (left : Holding) × IsLent before left × IsRecycled left after m

-- the messages were recycled, one after another
abbrev pub AreRecycled : List Node → Tally → Tally → Type 0
AreRecycled [] before after = after ≡ before
AreRecycled (m ∷ more) before after = (between : Tally) × (between.home ≡ before.home) × IsReturned m.claim before between × AreRecycled more between after
