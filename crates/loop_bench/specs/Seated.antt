-- A queue with its posters and its pool.
use Rattle.std.specs.Prelude.{◌≡◌, ◌+◌}
use Rattle.shared_queue.specs.Known.{Shared, Known, IsOf}
use Rattle.loop_bench.specs.declared.handled.Opened.{Opened}

-- the poster is that of the queue's last sender
abbrev pub IsLastSender : {H K : Type 0} → Shared H → Known H K → Type 0
IsLastSender q p = IsOf p q × (p.sender + 1 ≡ q.constants.setting.senders)

-- the posters are of the queue, the pass is of the pool, and the queue's messages are the pool's
pub record IsOpened (o : Opened) : Type 0 where
  pub looper : IsOf o.looper o.queue
  pub last : IsLastSender o.queue o.last
  pub pass : o.pass.home ≡ o.pool
  pub home : o.queue.constants.home ≡ o.pool
