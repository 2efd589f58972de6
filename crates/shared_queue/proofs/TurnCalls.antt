-- What each call between the two ends of a turn does to the state and to the whole history, by its kind; and that it is one turn.
use Rattle.std.proofs.Common.{◌≡◌, ℕ, ◌<◌, List, Bool, false, subst}
use Rattle.loop_model.specs.Items.{is_barrier}
use Rattle.loop_model.specs.declared.entry.Entry.{Entry}
use Rattle.loop_model.specs.declared.post.Filter.{Filter}
use Rattle.message_slot.specs.Letter.{Letter}
use Rattle.queue_state.specs.declared.answers.Posted.{Posted}
use Rattle.queue_state.specs.declared.answers.Nexted.{Nexted}
use Rattle.queue_state.specs.declared.answers.BarrierPosted.{BarrierPosted}
use Rattle.queue_state.specs.declared.answers.BarrierGone.{BarrierGone}
use Rattle.queue_state.specs.declared.answers.Taking.{Taking}
use Rattle.queue_state.specs.declared.answers.Quitting.{Quitting}
use Rattle.queue_state.specs.declared.answers.Advancing.{Advancing}
use Rattle.queue_state.specs.declared.answers.Halting.{Halting}
use Rattle.queue_state.specs.Queue.{Queue}
use Rattle.queue_state.specs.Calls.{Posts, PostsBarrier, Unbars, Takes, Quits, Looks, Advances, Halts}
use Rattle.shared_queue.specs.declared.desk.Desk.{Desk}
use Rattle.shared_queue.specs.Constants.{Constants}
use Rattle.shared_queue.specs.Whole.{Leave, whole_queue}
use Rattle.shared_queue.specs.Known.{Known, IsTurn, StepsBy}
use Rattle.shared_queue.specs.Claims.{LooksAsAccepted, TakesAsAccepted, QuitsAsAccepted}
use Rattle.shared_queue.specs.Calls.{PostedBy}
use Rattle.shared_queue.specs.Desk.{IsIdle, Began, MayEnd, Ended}
use Rattle.shared_queue.proofs.Claims.{KeepsClaims, keeps_posts, keeps_barriers, keeps_unbars, keeps_takes, keeps_quits, keeps_looks, keeps_advances, keeps_halts, posts_claim, looks_claimed, takes_claimed, quits_claimed}
use Rattle.shared_queue.proofs.Desks.{may_end}
use Rattle.shared_queue.proofs.Knows.{known, is_turn, leave_found}
use Rattle.shared_queue.proofs.Steps.{posts, posts_barrier, unbars, takes, quits, looks, advances, halts}
use Rattle.shared_queue.proofs.Whole.{posts_whole, bars_whole, unbars_whole, takes_whole, quits_whole, looks_whole, advances_whole, halts_whole}

module _ {H K : Type 0} where
  -- a kind of call: from a state, by a sender, to a state, it leaves one entry more of the sender or none, keeps the claims, and it is the same call of the whole history
  pub record IsCall (P : Queue H K → ℕ → Queue H K → Type 0) : Type 0 where
    pub steps : (x y : Queue H K) (s : ℕ) → P x s y → StepsBy s x y
    pub keeps : (x y : Queue H K) (s : ℕ) → P x s y → KeepsClaims x y
    pub lifts : (before : List Entry) (x y : Queue H K) (s : ℕ) → Leave x.setting before x.start → s < x.setting.senders → P x s y → P (whole_queue before x) s (whole_queue before y)

  pub posting : (m : Letter K) (r : Posted K H) → is_barrier m.item ≡ false → IsCall (λ x s y. Posts x s m r y)
  posting m r target = record { steps = λ x y s. posts x y s m r; lifts = λ before x y s leave below. posts_whole before x leave s below y m r; keeps = λ x y s. keeps_posts x y s m r target }

  pub barring : (now : ℕ) (m : Letter K) (r : BarrierPosted K H) → IsCall (λ x s y. PostsBarrier x s now m r y)
  barring now m r = record { steps = λ x y s. posts_barrier x y s now m r; lifts = λ before x y s leave below. bars_whole before x leave s below now y m r; keeps = λ x y s. keeps_barriers x y s now m r }

  pub unbarring : (token : ℕ) (r : BarrierGone K H) → IsCall (λ x s y. Unbars x s token r y)
  unbarring token r = record { steps = λ x y s. unbars x y s token r; lifts = λ before x y s leave below. unbars_whole before x leave s below y token r; keeps = λ x y s. keeps_unbars x y s token r }

  pub removing : (f : Filter) (r : Taking K H) → IsCall (λ x s y. Takes x s f r y)
  removing f r = record { steps = λ x y s. takes x y s f r; lifts = λ before x y s leave below. takes_whole before x leave s below y f r; keeps = λ x y s. keeps_takes x y s f r }

  pub quitting : (safe : Bool) (now : ℕ) (r : Quitting K H) → IsCall (λ x s y. Quits x s safe now r y)
  quitting safe now r = record { steps = λ x y s. quits x y s safe now r; lifts = λ before x y s leave below. quits_whole before x leave s below now y safe r; keeps = λ x y s. keeps_quits x y s safe now r }

  pub looking : (now : ℕ) (idle : Bool) (r : Nexted K H) → IsCall (λ x s y. Looks x s now idle r y)
  looking now idle r = record { steps = λ x y s. looks x y s now idle r; lifts = λ before x y s leave below. looks_whole before x leave s below now y idle r; keeps = λ x y s. keeps_looks x y s now idle r }

  pub advancing : (now : ℕ) (r : Advancing) → IsCall (λ x s y. Advances x s now r y)
  advancing now r = record { steps = λ x y s. advances x y s now r; lifts = λ before x y s leave below. advances_whole before x leave s below y now r; keeps = λ x y s. keeps_advances x y s now r }

  pub halting : (now : ℕ) (r : Halting) → IsCall (λ x s y. Halts x s now r y)
  halting now r = record { steps = λ x y s. halts x y s now r; lifts = λ before x y s leave below. halts_whole before x leave s below now y r; keeps = λ x y s. keeps_halts x y s now r }

module _ {H K : Type 0} {P : Queue H K → ℕ → Queue H K → Type 0} (call : IsCall P) (key : Constants H) (d e : Desk (Queue H K) H K) (x y : Queue H K) (b : Began key d e x) (done : P x e.sender y) where
  mine : P x d.sender y
  mine = subst (λ s. P x s y) b.same.1 done

  -- the turn's end may come behind the call
  pub end_may_come : MayEnd key e y
  end_may_come = may_end key d e x y b (call.steps x y d.sender mine) (call.keeps x y d.sender mine)

  -- and the call was that turn
  pub is_one_turn : (n : Desk (Queue H K) H K) {before : Known H K} → known d ≡ before → IsIdle d → Ended e n y → (v : Queue H K) × (w : Queue H K) × IsTurn before (known n) v w × P v before.sender w
  is_one_turn n seen idle f =
      subst (λ (p : Known H K). (v : Queue H K) × (w : Queue H K) × IsTurn p (known n) v w × P v p.sender w) seen (
        whole_queue b.spans.0 x,
        whole_queue b.spans.0 y,
        is_turn key d e x idle b n y (call.steps x y d.sender mine) (call.keeps x y d.sender mine) f,
        call.lifts b.spans.0 x y d.sender (leave_found key d e x idle b) b.below mine,
      )

-- a turn of such a call, in which the claims are as they were accepted
module _ {H K : Type 0} (before after : Known H K) where
  abbrev TurnOf : (Queue H K → ℕ → Queue H K → Type 0) → Type 0
  TurnOf P = (v : Queue H K) × (w : Queue H K) × IsTurn before after v w × P v before.sender w

  pub posted_by : (m : Letter K) (r : Posted K H) → is_barrier m.item ≡ false → TurnOf (λ x s y. Posts x s m r y) → PostedBy before after m r
  posted_by m r target t = (t.0, t.1, t.2, t.3, posts_claim before.view.claims after.view.claims t.0 t.1 before.sender t.2.claims m r target t.3)

  pub look_claims : (now : ℕ) (idle : Bool) (r : Nexted K H) → TurnOf (λ x s y. Looks x s now idle r y) → LooksAsAccepted after.view.claims r
  look_claims now idle r t = looks_claimed before.view.claims after.view.claims t.0 t.1 before.sender t.2.claims now idle r t.3

  pub removal_claims : (f : Filter) (r : Taking K H) → TurnOf (λ x s y. Takes x s f r y) → TakesAsAccepted after.view.claims r
  removal_claims f r t = takes_claimed before.view.claims after.view.claims t.0 t.1 before.sender t.2.claims f r t.3

  pub quit_claims : (safe : Bool) (now : ℕ) (r : Quitting K H) → TurnOf (λ x s y. Quits x s safe now r y) → QuitsAsAccepted after.view.claims r
  quit_claims safe now r t = quits_claimed before.view.claims after.view.claims t.0 t.1 before.sender t.2.claims safe now r t.3
