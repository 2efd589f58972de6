-- What a sending or a removal keeps.
use Rattle.std.specs.Prelude.{◌≡◌, ◌⊎◌}
use Rattle.atomic_table.specs.Seated.{TableId}
use Rattle.queue_state.specs.Queue.{Queue}
use Rattle.queue_state.specs.declared.recorder.Kept.{Kept}
use Rattle.message_pool.specs.Passes.{Claimed}
use Rattle.shared_queue.specs.Known.{Known, IsOf, IsTurn}
use Rattle.handler_post.specs.declared.way.Way.{Way}

-- a sender of a queue whose messages are of a pool
abbrev pub Sender : Type 0
Sender = Known TableId Claimed

abbrev pub State : Type 0
State = Queue TableId Claimed

-- a way to a queue whose messages carry no value
abbrev pub PlainWay : Type 0 → Type 0
PlainWay R = Way R (Unit {0})

-- such a way to a queue whose entries are kept in memory
abbrev pub KeptWay : Type 0
KeptWay = PlainWay Kept

-- the poster is one of the queue, the pass is one of the pool, and the queue's messages are the pool's
pub record IsReady {R P : Type 0} (w : Way R P) : Type 0 where
  pub poster : IsOf w.poster.now w.queue.now
  pub pass : w.pass.now.home ≡ w.pool.now
  pub home : w.queue.now.constants.home ≡ w.pool.now

-- the same queue and pool, by the same references
pub record IsSameWay {R P : Type 0} (before after : Way R P) : Type 0 where
  pub queue : after.queue.now ≡ before.queue.now
  pub pool : after.pool.now ≡ before.pool.now
  pub poster : after.poster.ghost_name ≡ before.poster.ghost_name
  pub pass : after.pass.ghost_name ≡ before.pass.ghost_name

-- no entry was made: there was no turn, or one that left what it found
abbrev pub MadeNone : Sender → Sender → Type 0
MadeNone before after = (after ≡ before) ⊎ ((x : State) × IsTurn before after x x)

-- a call by a way did this, and the way is ready again and the same
pub record ByWay {R P A : Type 0} (Does : Way R P → Way R P → A → Type 0) (before after : Way R P) (result : A) : Type 0 where
  pub ready : IsReady after
  pub same : IsSameWay before after
  pub did : Does before after result
