-- What a dispatcher's calls ask for and leave.
use Rattle.std.specs.Prelude.{◌≡◌, ℕ, ◌+◌, ◌%◌, ◌^◌, ◌≤◌, List, [], ◌∷◌, ◌++◌, All, Option, Some, slice_get}
use Rattle.loop_model.specs.declared.journal.Act.{Act}
use Rattle.loop_model.specs.declared.journal.Act.TheVariants.{Dispatch}
use Rattle.loop_model.specs.declared.journal.Route.{Route}
use Rattle.loop_model.specs.declared.call.Call.TheVariants.{Next}
use Rattle.loop_model.specs.declared.reply.Reply.TheVariants.{Dispatched}
use Rattle.loop_model.specs.declared.entry.Entry.{Entry}
use Rattle.loop_model.specs.Posts.{post_at}
use Rattle.message_slot.specs.Letter.{post_of, number_in}
use Rattle.message_pool.specs.Passes.{Claimed, Node}
use Rattle.looper_run.specs.declared.dispatcher.Did.{Did}
use Rattle.looper_run.specs.declared.dispatcher.Did.TheVariants.{Yes, No, NoMemory}
use Rattle.looper_run.specs.Holding.{Sender, Holding}
use Rattle.looper_run.specs.Acts.{IsOfDispatcher, IsNoLookOf}

-- a test of a looper's sender number, of what it has seen of its queue's history, and of its journal's acts
abbrev pub Test : Type 1
Test = ℕ → List Entry → List Act → Type 0

-- the test is true of the looper
abbrev pub Passes : Test → Holding → Type 0
Passes M h = M h.poster.sender h.poster.view.seen h.journal.acts

-- the same looper on the same queue and pool, which has the turns that it had and more
pub record IsSameLooper (before after : Holding) : Type 0 where
  pub table : after.poster.table ≡ before.poster.table
  pub sender : after.poster.sender ≡ before.poster.sender
  pub constants : after.poster.view.constants ≡ before.poster.view.constants
  pub heard : after.poster.view.heard ≡ before.poster.view.heard
  pub turns : before.poster.view.turns ≤ after.poster.view.turns
  pub home : after.pass.home ≡ before.pass.home
  pub looper : after.journal.looper ≡ before.journal.looper

-- what a call leaves of what it was lent: more entries were seen, and those of the looper are no looks for a message; acts of the dispatcher were appended;
-- slots may have been given back
pub record IsLent (before after : Holding) : Type 0 where
  pub same : IsSameLooper before after
  pub more : List Entry
  pub did : List Act
  pub seen : after.poster.view.seen ≡ before.poster.view.seen ++ more
  pub acts : after.journal.acts ≡ before.journal.acts ++ did
  pub no_looks : All (IsNoLookOf before.poster.sender) more
  pub told : All IsOfDispatcher did
  pub back : before.pass.back ≤ after.pass.back

-- the poster rang the bell as often as the count rose, which wraps at 2 to the 64
abbrev pub Rings : Sender → Sender → ℕ → ℕ → Type 0
Rings before after count count' = (rings : ℕ) × (after.view.rung ≡ before.view.rung + rings) × (count' % 2 ^ 64 ≡ (count + rings) % 2 ^ 64)

-- the entry is the sender's look at this moment which took the message of this number
pub record IsTake (sender now number : ℕ) (e : Entry) : Type 0 where
  pub sender_is : e.sender ≡ sender
  pub call : e.call ≡ Next now
  pub reply : e.reply ≡ Dispatched number

-- the last entry that was seen took this message at this moment, and the test is true of what was seen before it
pub record HasTakenMessage (M : Test) (h : Holding) (m : Node) (now : ℕ) : Type 0 where
  pub past : List Entry
  pub take : Entry
  pub seen : h.poster.view.seen ≡ past ++ take ∷ []
  pub is_take : IsTake h.poster.sender now (number_in m.item) take
  pub post : post_at past (number_in m.item) ≡ Some (post_of m.item)
  pub passes : M h.poster.sender past h.journal.acts

-- the test is true once the message is told to be dispatched by this route
abbrev pub PassesWith : Test → Holding → Node → ℕ → Route → Type 0
PassesWith M h m now route = M h.poster.sender h.poster.view.seen (h.journal.acts ++ Dispatch (number_in m.item) now route ∷ [])

-- what holds unless memory ran out
abbrev pub Unless : Did → Type 0 → Type 0
Unless Yes P = P
Unless No P = P
Unless NoMemory P = Unit {0}

-- nothing was seen, no turn was taken, and no act was appended
pub record IsUntouched (before after : Holding) : Type 0 where
  pub seen : after.poster.view.seen ≡ before.poster.view.seen
  pub claims : after.poster.view.claims ≡ before.poster.view.claims
  pub turns : after.poster.view.turns ≡ before.poster.view.turns
  pub acts : after.journal.acts ≡ before.journal.acts

-- the first where the message was intercepted, and the second where it is to be handled
abbrev pub Intercepts : Did → Type 0 → Type 0 → Type 0
Intercepts Yes P Q = P
Intercepts No P Q = Q
Intercepts NoMemory P Q = Unit {0}

-- this holds of the claim that the looper's poster saw accepted with the message's number
abbrev pub SawClaim : (Option Claimed → Type 0) → Sender → Node → Type 0
SawClaim P poster m = (claim : Option Claimed) × (slice_get poster.view.claims (number_in m.item) ≡ Some claim) × P claim
