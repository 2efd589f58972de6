-- The queue that a looper finds at its number is its own.
use Rattle.std.proofs.Common.{◌≡◌, ◌<◌, length, Some, None, sym, subst}
use Rattle.std.specs.Prelude.{slice_get}
use Rattle.atomic_table.specs.Seated.{TableId}
use Rattle.shared_queue.specs.Known.{Shared}
use Rattle.looper_run.specs.Holding.{IsAt}
use Rattle.dash_script.specs.declared.script.Script.{Script}
use Rattle.dash_hall.specs.declared.hall.Hall.{Hall}
use Rattle.dash_hall.specs.Kits.{IsHall}
use Rattle.dash_loopers.specs.declared.looper.StageLooper.{StageLooper}
use Rattle.dash_loopers.specs.Loopers.{IsLooper}
use Rattle.dash_loopers.proofs.LooperPlaces.{queue_near, frames_near, queue_home}
use Rattle.dash_loopers.proofs.LooperKits.{looper_of}

module _ (s : Script) (hall : Hall) (l : StageLooper) (is_hall : IsHall s hall) (is : IsLooper s hall l) where
  -- it is there
  pub within_queues : l.number < length hall.queues.items
  within_queues = queue_near s hall l.number (looper_of s hall l is_hall is)

  pub within_frames : l.number < length hall.choreographers.items
  within_frames = frames_near s hall l.number (looper_of s hall l is_hall is)

  module _ (q : Shared TableId) (at : slice_get hall.queues.items l.number ≡ Some q) where
    -- the looper stands at it
    pub at_queue : IsAt q hall.pool l.looper.held
    at_queue = record {
      poster = is.place.queue q at;
      pass = is.place.pool;
      home = queue_home s hall l.number (looper_of s hall l is_hall is) l.number q at;
    }

    -- and so does the looper without its parts
    pub at_queue_here : (x : StageLooper) → x ≡ record l { parts = None } → IsAt q hall.pool x.looper.held
    at_queue_here x taken = subst (λ (y : StageLooper). IsAt q hall.pool y.looper.held) (sym taken) at_queue
