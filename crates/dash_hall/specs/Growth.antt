-- What a sender's calls do to its poster and its pass.
use Rattle.std.specs.Prelude.{◌≡◌, ◌≢◌, ◌+◌, ◌≤◌, ℕ, Bool, List, [], ◌∷◌, ◌++◌, All, Result, IfOk, OnErr}
use Rattle.atomic_table.specs.Seated.{TableId}
use Rattle.loop_model.specs.declared.call.Call.{Call}
use Rattle.loop_model.specs.declared.entry.Entry.{Entry}
use Rattle.message_pool.specs.Passes.{Claimed, Node, Tally}
use Rattle.queue_state.specs.declared.answers.BarrierPosted.TheVariants as barred
use Rattle.queue_state.specs.declared.answers.Quitting.{Quitting}
use Rattle.queue_state.specs.declared.answers.Quitting.TheVariants as quitting
use Rattle.shared_queue.specs.Known.{Shared, IsOf}
use Rattle.shared_queue.specs.Calls.{BarrierPostedBy, QuitBy}
use Rattle.handler_post.specs.Supply.{BringsBack}
use Rattle.looper_run.specs.Holding.{Sender}
use Rattle.looper_run.specs.Acts.{IsNoLookOf}
use Rattle.run_model.specs.Planned.{bare_call, token_in, entries_by}
use Rattle.handler_post.specs.Ways.{KeptWay as Way, IsReady, IsSameWay, MadeNone}
use Rattle.dash_hall.specs.Slots.{LosesNoSlot}

-- the entries that a poster has made
abbrev pub own : Sender → List Entry
own p = entries_by p.sender p.view.seen

-- the poster is one of the queue, the pass is one of the pool, and the queue's messages are the pool's
pub record MayCall (q : Shared TableId) (pool : TableId) (poster : Sender) (tally : Tally) : Type 0 where
  pub queue : IsOf poster q
  pub pass : tally.home ≡ pool
  pub home : q.constants.home ≡ pool

-- the same sender of the same queue, with the same pool, which has seen more and may have taken turns; it rang no bell and read none, made no look for a
-- message, handed nothing out, and lost no slot
pub record GoesOn (before after : Sender) (pass pass' : Tally) : Type 0 where
  pub table : after.table ≡ before.table
  pub sender : after.sender ≡ before.sender
  pub constants : after.view.constants ≡ before.view.constants
  pub heard : after.view.heard ≡ before.view.heard
  pub rung : after.view.rung ≡ before.view.rung
  pub sealed : after.view.sealed ≡ before.view.sealed
  pub turns : before.view.turns ≤ after.view.turns
  pub more : List Entry
  pub seen : after.view.seen ≡ before.view.seen ++ more
  pub no_looks : All (IsNoLookOf before.sender) more
  pub home : pass'.home ≡ pass.home
  pub back : pass.back ≤ pass'.back
  pub steps : ℕ
  pub slots : LosesNoSlot steps before after pass pass'

-- the sender took at most one turn
abbrev pub TurnsOnce : Sender → Sender → Type 0
TurnsOnce before after = after.view.turns ≤ before.view.turns + 1

-- the sender made one entry more, which makes this call and is answered these tokens
pub record Makes (before after : Sender) (call : Call) (tokens : List ℕ) : Type 0 where
  pub entry : Entry
  pub made : own after ≡ own before ++ entry ∷ []
  pub makes : bare_call entry.call ≡ call
  pub answered : token_in entry.reply ≡ tokens

-- the tokens of a call that is answered none
abbrev pub no_token : {A : Type 0} → A → List ℕ
no_token answer = []

-- the token of a call that is answered one
abbrev pub one_token : ℕ → List ℕ
one_token token = token ∷ []

-- by at most one turn the sender made this call, with the tokens of the answer; at an error it made no entry
pub record CallsOnce {A E : Type 0} (before after : Sender) (pass pass' : Tally) (call : Call) (tokens : A → List ℕ) (result : Result A E) : Type 0 where
  pub on : GoesOn before after pass pass'
  pub once : TurnsOnce before after
  pub made : IfOk result (λ answer. Makes before after call (tokens answer))
  pub none : OnErr result (own after ≡ own before)
  pub still : OnErr result (MadeNone before after)

-- the same by a way, which stays the same and is ready again
pub record WayCalled {A E : Type 0} (before after : Way) (call : Call) (tokens : A → List ℕ) (result : Result A E) : Type 0 where
  pub ready : IsReady after
  pub same : IsSameWay before after
  pub by : CallsOnce before.poster.now after.poster.now before.pass.now after.pass.now call tokens result

-- one turn that posted a barrier of this token at this moment
abbrev pub BarsOf : Sender → Sender → ℕ → ℕ → Type 0
BarsOf before after now token = (node : Node) × BarrierPostedBy before after now node (barred.Token token)

-- one turn that quit the queue, or was refused; either stands in the history
abbrev pub QuitsOf : Sender → Sender → Bool → ℕ → Type 0
QuitsOf before after safe now = (answer : Quitting Claimed TableId) × (answer ≢ quitting.NoMemory) × QuitBy before after safe now answer

-- what a quit dropped was brought back to the pool
abbrev pub BringsDroppedBack : Quitting Claimed TableId → Tally → Tally → Type 0
BringsDroppedBack (quitting.Done left) pass pass' = BringsBack left pass pass'
BringsDroppedBack (quitting.AlreadyQuit place) pass pass' = pass' ≡ pass
BringsDroppedBack quitting.NotAllowed pass pass' = pass' ≡ pass
BringsDroppedBack quitting.NoMemory pass pass' = pass' ≡ pass

-- such a turn by a way, and what it dropped is back in the pool
abbrev pub WayQuits : Way → Way → Bool → ℕ → Type 0
WayQuits before after safe now =
    (answer : Quitting Claimed TableId) × (answer ≢ quitting.NoMemory) × QuitBy before.poster.now after.poster.now safe now answer
    × BringsDroppedBack answer before.pass.now after.pass.now

-- one turn of a way that found no memory to enter a quit that is refused; its pass is as it was
abbrev pub WayQuitsNot : Way → Way → Bool → ℕ → Type 0
WayQuitsNot before after safe now =
    QuitBy before.poster.now after.poster.now safe now quitting.NoMemory × (after.pass.now ≡ before.pass.now)
