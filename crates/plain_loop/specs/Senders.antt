-- What holds of a queue as it opens, and of its senders.
use Rattle.std.specs.Prelude.{◌≡◌, ℕ, ◌+◌, false, length, []}
use Rattle.atomic_table.specs.Seated.{TableId}
use Rattle.shared_queue.specs.Known.{Shared, IsOf}
use Rattle.shared_queue.specs.Ends.{IsNewPoster, AreNew}
use Rattle.looper_run.specs.Holding.{IsAt, Looping}
use Rattle.plain_loop.specs.declared.mailbox.Settings.{Settings}
use Rattle.plain_loop.specs.declared.mailbox.Sender.{Sender}
use Rattle.plain_loop.specs.declared.mailbox.Senders.{Senders}
use Rattle.plain_loop.specs.declared.mailbox.Opened.{Opened}

-- the poster is one of the queue, the pass is one of the pool, and the queue's messages are the pool's
pub record IsSender {E P : Type 0} (queue : Shared TableId) (pool : TableId) (s : Sender E P) : Type 0 where
  pub poster : IsOf s.poster queue
  pub pass : s.pass.home ≡ pool
  pub home : queue.constants.home ≡ pool

-- the same of senders that no thread has, each of which has done nothing
pub record AreSenders {E P : Type 0} (queue : Shared TableId) (pool : TableId) (s : Senders E P) : Type 0 where
  pub posters : AreNew queue s.posters.items
  pub pass : s.pass.home ≡ pool
  pub home : queue.constants.home ≡ pool

-- the first are one sender fewer
abbrev pub IsOneFewer : {E P : Type 0} → Senders E P → Senders E P → Type 0
IsOneFewer few many = length many.posters.items ≡ length few.posters.items + 1

-- the looper is of this queue and this pool, it has not ended, and its poster is the last sender's, which alone may let go of the queue's history
pub record IsQueueLooper (queue : Shared TableId) (pool : TableId) (l : Looping) : Type 0 where
  pub at : IsAt queue pool l.held
  pub going : l.ended ≡ false
  pub last : l.held.poster.sender + 1 ≡ queue.constants.setting.senders

-- a queue that nobody has used, with its looper and so many senders, which goes by a clock; it is as the settings say
pub record IsOpened {E P : Type 0} (settings : Settings) (count : ℕ) (o : Opened E P) : Type 0 where
  pub looper : IsQueueLooper o.parts.queue o.parts.pool o.looper
  pub number : (o.parts.queue.constants.looper ≡ settings.looper) × (o.looper.held.journal.looper ≡ settings.looper)
  pub main : o.parts.queue.constants.setting.main ≡ settings.main
  pub unused : IsNewPoster o.looper.held.poster
  pub untold : o.looper.held.journal.acts ≡ []
  pub free : o.parts.queue.constants.setting.lockstep ≡ false
  pub senders : AreSenders o.parts.queue o.parts.pool o.senders
  pub many : length o.senders.posters.items ≡ count
