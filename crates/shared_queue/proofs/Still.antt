-- Calls that leave the state as they found it.
use Rattle.std.proofs.Common.{◌≡◌, List, refl, inl, subst}
use Rattle.loop_model.specs.declared.entry.Entry.{Entry}
use Rattle.queue_state.specs.Queue.{Queue}
use Rattle.shared_queue.specs.declared.desk.Desk.{Desk}
use Rattle.shared_queue.specs.Constants.{Constants}
use Rattle.shared_queue.specs.Whole.{Leave, whole_queue}
use Rattle.shared_queue.specs.Known.{Known, IsTurn}
use Rattle.shared_queue.specs.Desk.{IsIdle, Began, MayEnd, Ended}
use Rattle.shared_queue.proofs.Claims.{keeps_found}
use Rattle.shared_queue.proofs.Desks.{may_end}
use Rattle.shared_queue.proofs.Knows.{known, is_turn, leave_found}

module _ {H K : Type 0} (key : Constants H) (d e : Desk (Queue H K) H K) (x : Queue H K) (b : Began key d e x) where
  -- the turn's end may come at once
  pub still_may_end : MayEnd key e x
  still_may_end = may_end key d e x x b (refl, refl, refl, inl refl) (keeps_found x x refl)

  -- the call was that turn, and this holds of the state over its whole history
  pub is_still_turn : (n : Desk (Queue H K) H K) {before : Known H K} → known d ≡ before → IsIdle d → Ended e n x → (Q : Queue H K → Type 0) → ((past : List Entry) → Leave x.setting past x.start → Q (whole_queue past x))
      → (v : Queue H K) × IsTurn before (known n) v v × Q v
  is_still_turn n seen idle f Q holds =
      subst (λ (p : Known H K). (v : Queue H K) × IsTurn p (known n) v v × Q v) seen (
        whole_queue b.spans.0 x,
        is_turn key d e x idle b n x (refl, refl, refl, inl refl) (keeps_found x x refl) f,
        holds b.spans.0 (leave_found key d e x idle b),
      )
