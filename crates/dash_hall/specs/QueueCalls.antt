-- The calls that a sender makes on a queue.
use Rattle.std.specs.Prelude.{◌≡◌, ℕ, Bool, true, false, Option, Some, None, is_some, List, [], ◌∷◌, Result, IfOk, OnErr}
use Rattle.loop_model.specs.declared.call.Call.{Call}
use Rattle.loop_model.specs.declared.call.Call.TheVariants.{Post, Remove, Barrier, Unbarrier, Quit}
use Rattle.queue_state.specs.declared.answers.Quitting.TheVariants as quitting
use Rattle.shared_queue.specs.Calls.{QuitBy}
use Rattle.handler_post.specs.declared.way.Sent.{Sent}
use Rattle.handler_post.specs.declared.way.Sent.TheVariants.{Accepted, Refused, NoMemory}
use Rattle.handler_post.specs.declared.way.Erased.{Erased}
use Rattle.handler_post.specs.declared.way.Erased.TheVariants.{Removed, NoMemory as NoRoom}
use Rattle.looper_run.specs.Holding.{Sender}
use Rattle.run_model.specs.Planned.{bare_call}
use Rattle.dash_hall.specs.Growth.{BarsOf, QuitsOf}
use Rattle.dash_hall.specs.declared.calls.QueueCall.{QueueCall}
use Rattle.dash_hall.specs.declared.calls.QueueCall.TheVariants as on_queue

-- what holds of a sending that found no memory, and of any other
abbrev pub IfSent : Sent → Type 0 → Type 0 → Type 0
IfSent NoMemory P Q = P
IfSent (Accepted number wake) P Q = Q
IfSent (Refused place) P Q = Q

-- the same of a removal
abbrev pub IfErased : Erased → Type 0 → Type 0 → Type 0
IfErased NoRoom P Q = P
IfErased (Removed count) P Q = Q

-- a call on a queue, without what is left open: the slot of a message, and the moment of a barrier or a quit
abbrev pub call_made : QueueCall → Call
call_made (on_queue.Send post) = bare_call (Post post)
call_made (on_queue.Remove filter) = Remove filter
call_made (on_queue.PostBarrier now) = Barrier 0
call_made (on_queue.RemoveBarrier token) = Unbarrier token
call_made (on_queue.Quit safe now) = Quit safe 0

-- the call is a barrier's posting, which is answered a token
abbrev pub posts_barrier : QueueCall → Bool
posts_barrier (on_queue.PostBarrier now) = true
posts_barrier _ = false

-- the token that was answered, where one was
abbrev pub tokens_of : Option ℕ → List ℕ
tokens_of None = []
tokens_of (Some token) = token ∷ []

-- where the call has a moment, it was one turn at that moment
abbrev pub IsAtItsMoment : QueueCall → Option ℕ → Sender → Sender → Type 0
IsAtItsMoment (on_queue.Send post) token before after = Unit {0}
IsAtItsMoment (on_queue.Remove filter) token before after = Unit {0}
IsAtItsMoment (on_queue.PostBarrier now) None before after = ⊥
IsAtItsMoment (on_queue.PostBarrier now) (Some token) before after = BarsOf before after now token
IsAtItsMoment (on_queue.RemoveBarrier barrier) token before after = Unit {0}
IsAtItsMoment (on_queue.Quit safe now) token before after = QuitsOf before after safe now

-- where the call is a quit, it was one turn that found no memory to enter a quit that is refused
abbrev pub IsRefusedQuit : QueueCall → Sender → Sender → Type 0
IsRefusedQuit (on_queue.Send post) before after = Unit {0}
IsRefusedQuit (on_queue.Remove filter) before after = Unit {0}
IsRefusedQuit (on_queue.PostBarrier now) before after = Unit {0}
IsRefusedQuit (on_queue.RemoveBarrier barrier) before after = Unit {0}
IsRefusedQuit (on_queue.Quit safe now) before after = QuitBy before after safe now quitting.NoMemory

-- by its answer: where memory ran out a quit was refused; where a call was made it was made at its moment, and has a token just where it posts a barrier
pub record AnswersCall {E : Type 0} (call : QueueCall) (before after : Sender) (result : Result (Option ℕ) E) : Type 0 where
  pub refused : OnErr result (IsRefusedQuit call before after)
  pub token : IfOk result (λ token. is_some token ≡ posts_barrier call)
  pub moment : IfOk result (λ token. IsAtItsMoment call token before after)
