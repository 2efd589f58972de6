-- What the forms of a handler do, by their answer. Each is one call on the queue that the poster's turn found.
use Rattle.std.specs.Prelude.{◌≡◌, ℕ, Bool, List, Option, length}
use Rattle.atomic_table.specs.Seated.{TableId}
use Rattle.loop_model.specs.declared.post.Post.{Post}
use Rattle.loop_model.specs.declared.post.Filter.{Filter}
use Rattle.message_pool.specs.Passes.{Claimed, Node, Tally}
use Rattle.queue_state.specs.declared.answers.Posted.TheVariants as posted
use Rattle.queue_state.specs.declared.answers.Taking.TheVariants as taking
use Rattle.shared_queue.specs.Calls.{PostedBy, RemovedBy, HasBy, IdledBy}
use Rattle.handler_post.specs.declared.way.Way.{Way}
use Rattle.handler_post.specs.declared.way.Sent.{Sent}
use Rattle.handler_post.specs.declared.way.Sent.TheVariants.{Accepted, Refused, NoMemory}
use Rattle.handler_post.specs.declared.way.Erased.{Erased}
use Rattle.handler_post.specs.declared.way.Erased.TheVariants.{Removed, NoMemory as NoRoom}
use Rattle.handler_post.specs.Supply.{letter_of, Obtains, ObtainsInVain, BringsBack}
use Rattle.handler_post.specs.Ways.{Sender, MadeNone}

-- a message with these fields was obtained and posted: the queue took it, or refused it, and then it was recycled
abbrev pub Sending : TableId → Post → Sender → Sender → Tally → Tally → Sent → Type 0
Sending home p poster poster' pass pass' (Accepted number wake) =
    (claim : Option Claimed) × PostedBy poster poster' (letter_of p claim) (posted.Accepted number wake) × Obtains home claim pass pass'
Sending home p poster poster' pass pass' (Refused place) =
    (claim : Option Claimed) × PostedBy poster poster' (letter_of p claim) (posted.Refused place (letter_of p claim)) × ObtainsInVain home claim pass pass'
Sending home p poster poster' pass pass' NoMemory =
    (claim : Option Claimed) × MadeNone poster poster' × ObtainsInVain home claim pass pass'

-- the messages that the filter names were removed and recycled
abbrev pub Erasing : Filter → Sender → Sender → Tally → Tally → Erased → Type 0
Erasing f poster poster' pass pass' (Removed count) =
    (nodes : List Node) × RemovedBy poster poster' f (taking.Removed nodes) × (count ≡ length nodes) × BringsBack nodes pass pass'
Erasing f poster poster' pass pass' NoRoom = MadeNone poster poster' × (pass' ≡ pass)

abbrev pub Sends : {R P : Type 0} → Post → Way R P → Way R P → Sent → Type 0
Sends p before after result = Sending before.pool.now p before.poster.now after.poster.now before.pass.now after.pass.now result

abbrev pub Erases : {R P : Type 0} → Filter → Way R P → Way R P → Erased → Type 0
Erases f before after result = Erasing f before.poster.now after.poster.now before.pass.now after.pass.now result

abbrev pub Has : {R P : Type 0} → Filter → Way R P → Way R P → Bool → Type 0
Has f before after result = HasBy before.poster.now after.poster.now f result × (after.pass.now ≡ before.pass.now)

abbrev pub TellsIdle : {R P : Type 0} → ℕ → Way R P → Way R P → Bool → Type 0
TellsIdle now before after result = IdledBy before.poster.now after.poster.now now result × (after.pass.now ≡ before.pass.now)
