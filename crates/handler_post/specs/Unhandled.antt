-- What the calls by a way do that name no handler.
use Rattle.std.specs.Prelude.{◌≡◌, ◌≤◌, ℕ, Bool, true, false, List, length, Result, IfOk, OnErr}
use Rattle.message_pool.specs.Passes.{Node, Tally}
use Rattle.queue_state.specs.declared.answers.BarrierPosted.TheVariants as barred
use Rattle.queue_state.specs.declared.answers.BarrierGone.TheVariants as gone
use Rattle.queue_state.specs.declared.answers.Quitting.TheVariants as quitting
use Rattle.shared_queue.specs.Calls.{BarrierPostedBy, BarrierGoneBy, QuitBy}
use Rattle.handler_post.specs.declared.way.Way.{Way}
use Rattle.handler_post.specs.declared.unhandled.Quit.{Quit}
use Rattle.handler_post.specs.declared.unhandled.Quit.TheVariants.{Done, AlreadyQuit, NotAllowed, NoMemory}
use Rattle.handler_post.specs.Supply.{BringsBack}
use Rattle.handler_post.specs.Ways.{Sender, MadeNone}

-- one turn that posted a barrier of this token at this moment
abbrev pub Bars : {R P : Type 0} → ℕ → ℕ → Way R P → Way R P → Type 0
Bars now token before after = (node : Node) × BarrierPostedBy before.poster.now after.poster.now now node (barred.Token token)

-- one turn that removed the barrier of this token, or found none
abbrev pub Unbarring : ℕ → Bool → Sender → Sender → Type 0
Unbarring token true before after = (node : Node) × (wake : Bool) × BarrierGoneBy before after token (gone.Unbarriered node wake)
Unbarring token false before after = BarrierGoneBy before after token gone.NotPosted

abbrev pub Unbars : {R P : Type 0} → ℕ → Bool → Way R P → Way R P → Type 0
Unbars token was before after = Unbarring token was before.poster.now after.poster.now

-- a barrier was posted at this moment and its token answered, or else no entry was made; the count of slots given back doesn't fall
pub record WayBars {R P E : Type 0} (now : ℕ) (before after : Way R P) (result : Result ℕ E) : Type 0 where
  pub barred : IfOk result (λ token. Bars now token before after)
  pub none : OnErr result (MadeNone before.poster.now after.poster.now)
  pub back : before.pass.now.back ≤ after.pass.now.back

-- the barrier of this token was removed, or there was none, as was answered, or else no entry was made; the count of slots given back doesn't fall
pub record WayUnbars {R P E : Type 0} (token : ℕ) (before after : Way R P) (result : Result Bool E) : Type 0 where
  pub unbarred : IfOk result (λ was. Unbars token was before after)
  pub none : OnErr result (MadeNone before.poster.now after.poster.now)
  pub back : before.pass.now.back ≤ after.pass.now.back

-- one turn that quit the queue, or was refused, and what it dropped is back in the pool
abbrev pub Quitting : Bool → ℕ → Sender → Sender → Tally → Tally → Quit → Type 0
Quitting safe now p q pass pass' (Done dropped) =
    (nodes : List Node) × QuitBy p q safe now (quitting.Done nodes) × (dropped ≡ length nodes) × BringsBack nodes pass pass'
Quitting safe now p q pass pass' (AlreadyQuit place) = QuitBy p q safe now (quitting.AlreadyQuit place) × (pass' ≡ pass)
Quitting safe now p q pass pass' NotAllowed = QuitBy p q safe now quitting.NotAllowed × (pass' ≡ pass)
Quitting safe now p q pass pass' NoMemory = QuitBy p q safe now quitting.NoMemory × (pass' ≡ pass)

abbrev pub Quits : {R P : Type 0} → Bool → ℕ → Way R P → Way R P → Quit → Type 0
Quits safe now before after result = Quitting safe now before.poster.now after.poster.now before.pass.now after.pass.now result
