-- What the client of a looper's frames keeps.
use Rattle.std.specs.Prelude.{◌≡◌, ℕ}
use Rattle.atomic_table.specs.Seated.{TableId}
use Rattle.loop_model.specs.declared.journal.Journal.{Journal}
use Rattle.message_pool.specs.Passes.{Tally}
use Rattle.shared_queue.specs.Known.{Shared, IsOf}
use Rattle.choreographer.specs.Known.{SharedFrames, Pass, IsPassOf}
use Rattle.looper_run.specs.Holding.{Sender, Holding}
use Rattle.looper_run.specs.Tests.{IsLent}
use Rattle.frame_loop.specs.declared.painting.Painting.{Painting}

-- what a client keeps through all its calls: its queue, pool and choreographer, its references, and what the poster and the pass were before the frame
pub record PaintingOrigin : Type 0 where
  pub queue : Shared TableId
  pub pool : TableId
  pub poster_name : ℕ
  pub pass_name : ℕ
  pub asks_name : ℕ
  pub handlers_name : ℕ
  pub choreographer : SharedFrames
  pub poster : Sender
  pub pass : Tally

-- the origin of a client
abbrev pub painting_origin : {R C E H : Type 0} → Painting R C E H → PaintingOrigin
painting_origin l = record {
  queue = l.queue.now;
  pool = l.pool.now;
  poster_name = l.poster.ghost_name;
  pass_name = l.pass.ghost_name;
  asks_name = l.asks.ghost_name;
  handlers_name = l.handlers.ghost_name;
  choreographer = l.choreographer.now;
  poster = l.began.now.value;
  pass = l.pass_began.now.value;
}

-- what a looper lends, beside this journal
abbrev pub lending : Sender → Tally → Journal → Holding
lending poster pass j = record { poster = poster; pass = pass; journal = j }

-- the poster is one of the queue, the pass is one of the pool, the queue's messages are the pool's, the other pass is one of the choreographer, which has five
-- phases; and poster and pass have gone on since the frame began as the calls of a dispatcher may, and rang no bell
pub record ServesPainting (o : PaintingOrigin) (poster : Sender) (pass : Tally) (asks : Pass) (c : SharedFrames) : Type 0 where
  pub of_queue : IsOf poster o.queue
  pub of_pool : pass.home ≡ o.pool
  pub home : o.queue.constants.home ≡ o.pool
  pub of_frames : c ≡ o.choreographer
  pub asking : IsPassOf asks c
  pub phases : c.constants.phases ≡ 5
  pub lent : (j : Journal) → IsLent (lending o.poster o.pass j) (lending poster pass j)
  pub rung : poster.view.rung ≡ o.poster.view.rung
