-- Each call of the state leaves at most one entry more, of its sender.
use Rattle.std.proofs.Common.{◌≡◌, ℕ, refl, sym, subst, Bool, inl, inr, length}
use Rattle.loop_model.specs.declared.post.Filter.{Filter}
use Rattle.loop_model.specs.declared.call.Call.TheVariants.{Post, Barrier, Unbarrier, Remove, Quit, Next, Advance, Halt}
use Rattle.loop_model.specs.declared.reply.Reply.TheVariants.{Accepted, Refused, Token, Unbarriered, NotPosted, Removed, QuitDone, AlreadyQuit, NotAllowed, Dispatched, Disposed, Advanced, Halted}
use Rattle.message_slot.specs.Letter.{Letter, post_of}
use Rattle.queue_state.specs.declared.answers.Posted.{Posted}
use Rattle.queue_state.specs.declared.answers.Posted.TheVariants as posted
use Rattle.queue_state.specs.declared.answers.Nexted.{Nexted}
use Rattle.queue_state.specs.declared.answers.Nexted.TheVariants as nexted
use Rattle.queue_state.specs.declared.answers.BarrierPosted.{BarrierPosted}
use Rattle.queue_state.specs.declared.answers.BarrierPosted.TheVariants as barred
use Rattle.queue_state.specs.declared.answers.BarrierGone.{BarrierGone}
use Rattle.queue_state.specs.declared.answers.BarrierGone.TheVariants as gone
use Rattle.queue_state.specs.declared.answers.Taking.{Taking}
use Rattle.queue_state.specs.declared.answers.Taking.TheVariants as taking
use Rattle.queue_state.specs.declared.answers.Quitting.{Quitting}
use Rattle.queue_state.specs.declared.answers.Quitting.TheVariants as quitting
use Rattle.queue_state.specs.declared.answers.Advancing.{Advancing}
use Rattle.queue_state.specs.declared.answers.Advancing.TheVariants as advancing
use Rattle.queue_state.specs.declared.answers.Halting.{Halting}
use Rattle.queue_state.specs.declared.answers.Halting.TheVariants as halting
use Rattle.queue_state.specs.Queue.{Queue, entry_of, moment_at}
use Rattle.queue_state.specs.Calls.{Posts, PostsBarrier, Unbars, Takes, Quits, Looks, Advances, Halts}
use Rattle.shared_queue.specs.Known.{StepsBy}

module _ {H K : Type 0} (x y : Queue H K) (s : ℕ) where
  same : y ≡ x → StepsBy s x y
  same is = subst (StepsBy s x) (sym is) (refl, refl, refl, inl refl)

  pub posts : (m : Letter K) (r : Posted K H) → Posts x s m r y → StepsBy s x y
  posts m (posted.Accepted n wake) p = subst (StepsBy s x) (sym p.2) (refl, refl, refl, inr (entry_of x s (Post (post_of m.item)) (Accepted n), refl, refl))
  posts m (posted.Refused place node) p = subst (StepsBy s x) (sym p.2) (refl, refl, refl, inr (entry_of x s (Post (post_of m.item)) (Refused place), refl, refl))
  posts m (posted.NoMemory node) p = same p.1

  pub posts_barrier : (now : ℕ) (m : Letter K) (r : BarrierPosted K H) → PostsBarrier x s now m r y → StepsBy s x y
  posts_barrier now m (barred.Token t) p = subst (StepsBy s x) (sym p.1) (refl, refl, refl, inr (entry_of x s (Barrier (moment_at x now)) (Token t), refl, refl))
  posts_barrier now m (barred.NoMemory node) p = same p.1

  pub unbars : (t : ℕ) (r : BarrierGone K H) → Unbars x s t r y → StepsBy s x y
  unbars t (gone.Unbarriered node wake) p = subst (StepsBy s x) (sym p.3) (refl, refl, refl, inr (entry_of x s (Unbarrier t) Unbarriered, refl, refl))
  unbars t gone.NotPosted p = subst (StepsBy s x) (sym p.1) (refl, refl, refl, inr (entry_of x s (Unbarrier t) NotPosted, refl, refl))
  unbars t gone.NoMemory p = same p

  pub takes : (f : Filter) (r : Taking K H) → Takes x s f r y → StepsBy s x y
  takes f (taking.Removed list) p = subst (StepsBy s x) (sym p.2) (refl, refl, refl, inr (entry_of x s (Remove f) (Removed (length list)), refl, refl))
  takes f taking.NoMemory p = same p

  pub quits : (safe : Bool) (now : ℕ) (r : Quitting K H) → Quits x s safe now r y → StepsBy s x y
  quits safe now (quitting.Done list) p = subst (StepsBy s x) (sym p.2) (refl, refl, refl, inr (entry_of x s (Quit safe (moment_at x now)) QuitDone, refl, refl))
  quits safe now (quitting.AlreadyQuit place) p = subst (StepsBy s x) (sym p.1) (refl, refl, refl, inr (entry_of x s (Quit safe (moment_at x now)) (AlreadyQuit place), refl, refl))
  quits safe now quitting.NotAllowed p = subst (StepsBy s x) (sym p.1) (refl, refl, refl, inr (entry_of x s (Quit safe (moment_at x now)) NotAllowed, refl, refl))
  quits safe now quitting.NoMemory p = same p.1

  pub looks : (now : ℕ) (idle : Bool) (r : Nexted K H) → Looks x s now idle r y → StepsBy s x y
  looks now idle (nexted.Taken n at node) p = subst (StepsBy s x) (sym p.3) (refl, refl, refl, inr (entry_of x s (Next at) (Dispatched n), refl, refl))
  looks now idle nexted.Idle p = same p.3
  looks now idle (nexted.Wait until) p = subst (StepsBy s x) (sym p.3) (refl, refl, refl, inl refl)
  looks now idle (nexted.End list) p = subst (StepsBy s x) (sym p.2) (refl, refl, refl, inr (entry_of x s (Next (moment_at x now)) Disposed, refl, refl))
  looks now idle nexted.Over p = same p.1

  pub advances : (now : ℕ) (r : Advancing) → Advances x s now r y → StepsBy s x y
  advances now advancing.Advanced p = subst (StepsBy s x) (sym p.1) (refl, refl, refl, inr (entry_of x s (Advance now) Advanced, refl, refl))
  advances now advancing.Over p = same p.1
  advances now (advancing.Reached time) p = same p.3
  advances now (advancing.NotDrained n) p = same p.3
  advances now advancing.NoMemory p = same p

  pub halts : (now : ℕ) (r : Halting) → Halts x s now r y → StepsBy s x y
  halts now halting.Halted p = subst (StepsBy s x) (sym p.1) (refl, refl, refl, inr (entry_of x s (Halt (moment_at x now)) Halted, refl, refl))
  halts now halting.Over p = same p.1
  halts now (halting.NotDrained n) p = same p.2
