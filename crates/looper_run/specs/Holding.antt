-- What a looper works with.
use Rattle.std.specs.Prelude.{◌≡◌, Bool, Option}
use Rattle.atomic_table.specs.Seated.{TableId}
use Rattle.loop_model.specs.declared.journal.Journal.{Journal}
use Rattle.message_pool.specs.Passes.{Claimed, Tally}
use Rattle.queue_state.specs.Queue.{Queue}
use Rattle.queue_state.specs.declared.recorder.Kept.{Kept}
use Rattle.shared_queue.specs.Constants.{Constants}
use Rattle.shared_queue.specs.Known.{Known, Shared, IsOf}
use Rattle.looper_run.specs.declared.own.Own.{Own}

-- a sender of a queue whose messages are of a pool
abbrev pub Sender : Type 0
Sender = Known TableId Claimed

abbrev pub State : Type 0
State = Queue TableId Claimed

-- the looper's poster of its own queue, its pass of the pool, and its journal
pub record Holding : Type 0 where
  pub poster : Sender
  pub pass : Tally
  pub journal : Journal

-- a looper: what it works with, whether an idle turn is owed, and whether a round has ended it
pub record Looping : Type 0 where
  pub held : Holding
  pub idle_owed : Bool
  pub ended : Bool

-- the poster's queue and the pass's pool
pub record Workplace : Type 0 where
  pub table : TableId
  pub constants : Option (Constants TableId)
  pub pool : TableId

-- what the looper of a queue lends whose entries are kept in memory
abbrev pub KeptOwn : Type 0
KeptOwn = Own Kept (Unit {0})

abbrev pub held : {R P : Type 0} → Own R P → Holding
held own = record { poster = own.poster.now; pass = own.pass.now; journal = own.journal.now }

abbrev pub workplace : Holding → Workplace
workplace h = record { table = h.poster.table; constants = h.poster.view.constants; pool = h.pass.home }

-- the poster is one of the queue, the pass is one of the pool, and the queue's messages are the pool's
pub record IsAt (queue : Shared TableId) (pool : TableId) (h : Holding) : Type 0 where
  pub poster : IsOf h.poster queue
  pub pass : h.pass.home ≡ pool
  pub home : queue.constants.home ≡ pool

-- the same poster, pass and journal, by the same references
pub record IsSameOwn {R P : Type 0} (before after : Own R P) : Type 0 where
  pub poster : after.poster.ghost_name ≡ before.poster.ghost_name
  pub pass : after.pass.ghost_name ≡ before.pass.ghost_name
  pub journal : after.journal.ghost_name ≡ before.journal.ghost_name

-- all of a looper but its poster is the same
pub record IsBeside (before after : Looping) : Type 0 where
  pub pass : after.held.pass ≡ before.held.pass
  pub journal : after.held.journal ≡ before.held.journal
  pub idle_owed : after.idle_owed ≡ before.idle_owed
  pub ended : after.ended ≡ before.ended
