-- Which calls of the state wake its looper: those whose answers say so.
use Rattle.std.proofs.Common.{◌≡◌, ℕ, Bool, true, false, sym, ap, ◌∙◌, arith}
use Rattle.std.specs.Prelude.{◌||◌}
use Rattle.loop_model.specs.declared.post.Filter.{Filter}
use Rattle.message_slot.specs.Letter.{Letter}
use Rattle.queue_state.specs.declared.answers.Posted.{Posted}
use Rattle.queue_state.specs.declared.answers.Posted.TheVariants as posted
use Rattle.queue_state.specs.declared.answers.Nexted.{Nexted}
use Rattle.queue_state.specs.declared.answers.Nexted.TheVariants as nexted
use Rattle.queue_state.specs.declared.answers.BarrierPosted.{BarrierPosted}
use Rattle.queue_state.specs.declared.answers.BarrierPosted.TheVariants as barred
use Rattle.queue_state.specs.declared.answers.BarrierGone.{BarrierGone}
use Rattle.queue_state.specs.declared.answers.BarrierGone.TheVariants as gone
use Rattle.queue_state.specs.declared.answers.Taking.{Taking}
use Rattle.queue_state.specs.declared.answers.Taking.TheVariants as taking
use Rattle.queue_state.specs.declared.answers.Quitting.{Quitting}
use Rattle.queue_state.specs.declared.answers.Quitting.TheVariants as quitting
use Rattle.queue_state.specs.declared.answers.Advancing.{Advancing}
use Rattle.queue_state.specs.declared.answers.Advancing.TheVariants as advancing
use Rattle.queue_state.specs.declared.answers.Halting.{Halting}
use Rattle.queue_state.specs.declared.answers.Halting.TheVariants as halting
use Rattle.queue_state.specs.Queue.{Queue}
use Rattle.queue_state.specs.Calls.{Posts, PostsBarrier, Unbars, Takes, Quits, Looks, Advances, Halts}
use Rattle.shared_queue.specs.declared.desk.Desk.{Desk}
use Rattle.shared_queue.specs.Constants.{Constants}
use Rattle.shared_queue.specs.Plays.{Sat}
use Rattle.shared_queue.specs.Desk.{Began}
use Rattle.shared_queue.specs.Rings.{wakes_by_post, wakes_by_removal, wakes_by_quit, WakesNone, LeavesUnwoken}

-- a call that doesn't say that it wakes leaves the mark as it was
unsaid : (before wake after : Bool) → after ≡ (before || wake) → wake ≡ false → after ≡ true → before ≡ true
unsaid before wake after is none woken = grind arith

module _ {H K : Type 0} where
  -- the turn that found x may leave y quietly
  pub quiet : (key : Constants H) (d e : Desk (Queue H K) H K) (x y : Queue H K) → Began key d e x → WakesNone x y → LeavesUnwoken e y
  quiet key d e x y b none = (x, ap (λ (z : Sat H K). z.0.found) b.me, none)

module _ {H K : Type 0} (x y : Queue H K) where
  -- with the same mark nobody is woken
  kept : y.woken ≡ x.woken → WakesNone x y
  kept is woken = sym is ∙ woken

  pub as_found : y ≡ x → WakesNone x y
  as_found is = kept (ap (λ (q : Queue H K). q.woken) is)

  module _ (s : ℕ) where
    pub quiet_posts : (m : Letter K) (r : Posted K H) → Posts x s m r y → wakes_by_post r ≡ false → WakesNone x y
    quiet_posts m (posted.Accepted n wake) p none = unsaid x.woken wake y.woken (ap (λ (q : Queue H K). q.woken) p.2) none
    quiet_posts m (posted.Refused place node) p none = kept (ap (λ (q : Queue H K). q.woken) p.2)
    quiet_posts m (posted.NoMemory node) p none = as_found p.1

    pub quiet_unbars : (t : ℕ) (r : BarrierGone K H) → Unbars x s t r y → wakes_by_removal r ≡ false → WakesNone x y
    quiet_unbars t (gone.Unbarriered node wake) p none = unsaid x.woken wake y.woken (ap (λ (q : Queue H K). q.woken) p.3) none
    quiet_unbars t gone.NotPosted p none = kept (ap (λ (q : Queue H K). q.woken) p.1)
    quiet_unbars t gone.NoMemory p none = as_found p

    pub quiet_quits : (safe : Bool) (now : ℕ) (r : Quitting K H) → Quits x s safe now r y → wakes_by_quit r ≡ false → WakesNone x y
    quiet_quits safe now (quitting.Done list) p none = let wrong : true ≡ false = none in cc
    quiet_quits safe now (quitting.AlreadyQuit place) p none = kept (ap (λ (q : Queue H K). q.woken) p.1)
    quiet_quits safe now quitting.NotAllowed p none = kept (ap (λ (q : Queue H K). q.woken) p.1)
    quiet_quits safe now quitting.NoMemory p none = as_found p.1

    pub quiet_bars : (now : ℕ) (m : Letter K) (r : BarrierPosted K H) → PostsBarrier x s now m r y → WakesNone x y
    quiet_bars now m (barred.Token t) p = kept (ap (λ (q : Queue H K). q.woken) p.1)
    quiet_bars now m (barred.NoMemory node) p = as_found p.1

    pub quiet_takes : (f : Filter) (r : Taking K H) → Takes x s f r y → WakesNone x y
    quiet_takes f (taking.Removed list) p = kept (ap (λ (q : Queue H K). q.woken) p.2)
    quiet_takes f taking.NoMemory p = as_found p

    pub quiet_looks : (now : ℕ) (idle : Bool) (r : Nexted K H) → Looks x s now idle r y → WakesNone x y
    quiet_looks now idle (nexted.Taken n at node) p = kept (ap (λ (q : Queue H K). q.woken) p.3)
    quiet_looks now idle nexted.Idle p = as_found p.3
    quiet_looks now idle (nexted.Wait until) p = λ woken. let wrong : false ≡ true = sym (ap (λ (q : Queue H K). q.woken) p.3) ∙ woken in cc
    quiet_looks now idle (nexted.End list) p = kept (ap (λ (q : Queue H K). q.woken) p.2)
    quiet_looks now idle nexted.Over p = as_found p.1

    pub quiet_advances : (now : ℕ) (r : Advancing) → Advances x s now r y → WakesNone x y
    quiet_advances now advancing.Advanced p = kept (ap (λ (q : Queue H K). q.woken) p.1)
    quiet_advances now advancing.Over p = as_found p.1
    quiet_advances now (advancing.Reached time) p = as_found p.3
    quiet_advances now (advancing.NotDrained n) p = as_found p.3
    quiet_advances now advancing.NoMemory p = as_found p

    pub quiet_halts : (now : ℕ) (r : Halting) → Halts x s now r y → WakesNone x y
    quiet_halts now halting.Halted p = kept (ap (λ (q : Queue H K). q.woken) p.1)
    quiet_halts now halting.Over p = as_found p.1
    quiet_halts now (halting.NotDrained n) p = as_found p.2
