-- What a removal or a quit takes out with its values, and how these are handed out.
use Rattle.std.specs.Prelude.{◌≡◌, ℕ, Bool, List, [], ◌∷◌, ◌++◌, All, Option, Some, None, length, slice_get}
use Rattle.std.specs.Option.{option_to_list}
use Rattle.atomic_table.specs.Seated.{TableId}
use mathlib.Core.List.{IsPrefix}
use Rattle.loop_model.specs.declared.post.Filter.{Filter}
use Rattle.message_pool.specs.Passes.{Claimed, Node}
use Rattle.message_pool.specs.Obtain.{IsNodeOf}
use Rattle.message_pool.specs.Values.{content_of, content_in}
use Rattle.queue_state.specs.declared.answers.Taking.TheVariants as taking
use Rattle.queue_state.specs.declared.answers.Quitting.TheVariants as quitting
use Rattle.shared_queue.specs.Calls.{RemovedBy, QuitBy}
use Rattle.shared_queue.specs.Claims.{IsAsAccepted}
use Rattle.handler_post.specs.declared.unhandled.Quit.{Quit}
use Rattle.handler_post.specs.declared.unhandled.Quit.TheVariants.{Done, AlreadyQuit, NotAllowed, NoMemory}
use Rattle.handler_post.specs.Supply.{BringsBack}
use Rattle.handler_post.specs.declared.values.SentWith.{SentWith}
use Rattle.handler_post.specs.declared.values.SentWith.TheVariants as sent
use Rattle.handler_post.specs.declared.values.SentWith.TheVariants.{Accepted, Refused, Full}
use Rattle.handler_post.specs.Ways.{Sender, MadeNone}
use Rattle.handler_post.specs.declared.way.Way.{Way}
use Rattle.plain_loop.specs.declared.values.Values.{Values}

-- the messages are of this pool
abbrev pub AreOf : {P : Type 0} → TableId → Values P → Type 0
AreOf pool v = All (IsNodeOf pool) v.nodes

-- each of these messages has the claim, and so the value, that was accepted with its number, as far as this sender has seen
abbrev pub AreAsAccepted : {P : Type 0} → Sender → Values P → Type 0
AreAsAccepted p v = All (IsAsAccepted p.view.claims) v.nodes

-- what is seen of the values that these messages carry, in order
abbrev pub contents : List Node → List (List ℕ)
contents [] = []
contents (m ∷ ms) = option_to_list (content_in m.claim) ++ contents ms

-- the messages that went carry this value and no other, or none of them carries one, and then no message is left
abbrev pub HandedOut : {P : Type 0} → (P → List ℕ) → List Node → List Node → Option P → Type 0
HandedOut content gone rest None = (contents gone ≡ []) × (rest ≡ [])
HandedOut content gone rest (Some value) = contents gone ≡ content value ∷ []

-- the first of these messages went back to the pool, and the one value that they carry was handed out; the poster did nothing
abbrev pub HandsValueOut : {E P : Type 0} → (P → List ℕ) → Values P → Values P → Way E P → Way E P → Option P → Type 0
HandsValueOut content left left' before after result = (gone : List Node) × (left.nodes ≡ gone ++ left'.nodes) × HandedOut content gone left'.nodes result
    × BringsBack gone before.pass.now after.pass.now × (after.poster.now ≡ before.poster.now)

-- one turn that removed these messages, which the filter names; no slot was given back yet
abbrev pub TakesOut : {E P : Type 0} → Filter → Way E P → Way E P → Values P → Type 0
TakesOut f before after v = RemovedBy before.poster.now after.poster.now f (taking.Removed v.nodes) × (after.pass.now ≡ before.pass.now)

-- no entry was made, and no slot was given back
abbrev pub TakesNone : {E P : Type 0} → Way E P → Way E P → Type 0
TakesNone before after = MadeNone before.poster.now after.poster.now × (after.pass.now ≡ before.pass.now)

-- one turn that quit the queue and dropped these messages, or was refused and dropped none
abbrev pub QuittingWith : {P : Type 0} → Bool → ℕ → Sender → Sender → Quit → Values P → Type 0
QuittingWith safe now p q (Done dropped) v = QuitBy p q safe now (quitting.Done v.nodes) × (dropped ≡ length v.nodes)
QuittingWith safe now p q (AlreadyQuit place) v = QuitBy p q safe now (quitting.AlreadyQuit place) × (v.nodes ≡ [])
QuittingWith safe now p q NotAllowed v = QuitBy p q safe now quitting.NotAllowed × (v.nodes ≡ [])
QuittingWith safe now p q NoMemory v = QuitBy p q safe now quitting.NoMemory × (v.nodes ≡ [])

-- the same of a way, which gave no slot back yet
abbrev pub QuitsWith : {E P : Type 0} → Bool → ℕ → Way E P → Way E P → Quit → Values P → Type 0
QuitsWith safe now before after quit v = QuittingWith safe now before.poster.now after.poster.now quit v × (after.pass.now ≡ before.pass.now)

-- this is the value that was accepted with this number, among the claims that this sender has seen: of the two the same is seen; None where
-- the message carried none
abbrev pub IsValueOf : {P : Type 0} → (P → List ℕ) → Sender → ℕ → Option P → Type 0
IsValueOf content p number value = (claim : Option Claimed) × (slice_get p.view.claims number ≡ Some claim) × (content_of content value ≡ content_in claim)

-- this holds of the number with which a sending was accepted
abbrev pub IfAccepted : {P : Type 0} → SentWith P → (ℕ → Type 0) → Type 0
IfAccepted (Accepted number wake) Q = Q number
IfAccepted (Refused place back) Q = Unit {0}
IfAccepted (Full back) Q = Unit {0}
IfAccepted (sent.NoMemory back) Q = Unit {0}

-- a value that one sender knows by a number is the value that another knows by it, where each has seen a beginning of the same claims, as
-- they have once one of them has heard of the other
abbrev pub ValueIsSent : {P : Type 0} → (P → List ℕ) → Type 0
ValueIsSent {P} content =
    (p q : Sender) (number : ℕ) (sent given : Option P) (claims : List (Option Claimed))
    → IsValueOf content p number sent → IsValueOf content q number given
    → IsPrefix p.view.claims claims → IsPrefix q.view.claims claims → content_of content given ≡ content_of content sent
