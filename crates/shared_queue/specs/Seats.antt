-- A seat that took the turn.
use Rattle.std.specs.Prelude.{◌≡◌, List, [], ◌∷◌, Option, None}
use Rattle.atomic_table.specs.Table.{Me}
use Rattle.loop_model.specs.declared.entry.Entry.{Entry}
use Rattle.queue_state.specs.Queue.{Queue}
use Rattle.shared_queue.specs.declared.view.View.{View}
use Rattle.shared_queue.specs.Constants.{Constants, IsFor}
use Rattle.shared_queue.specs.Whole.{Spans}
use Rattle.shared_queue.specs.Turn.{taking}
use Rattle.shared_queue.specs.Plays.{Extends, KnowsClaims}

module _ {H K : Type 0} where
  -- the seat has the turn, and the state x of its queue, with this whole history
  pub record HasTakenTurn (key : Constants H) (m n : Me (Option (Queue H K)) (View (Queue H K) H K)) (x : Queue H K) : Type 0 where
    pub whole : List Entry
    pub claims : List (Option K)
    pub me : n ≡ (taking m.0 whole claims x, (0, None) ∷ [])
    pub own : IsFor key x
    pub spans : Spans key.setting whole x
    pub extends : Extends m.0 whole x
    pub knows : KnowsClaims m.0 claims x
