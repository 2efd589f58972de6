-- What a sending with a value does.
use Rattle.std.specs.Prelude.{◌≡◌, ℕ, List, Some}
use Rattle.atomic_table.specs.Seated.{TableId}
use Rattle.loop_model.specs.declared.post.Post.{Post}
use Rattle.message_pool.specs.Passes.{Claimed, Node, Tally}
use Rattle.queue_state.specs.declared.answers.Posted.TheVariants as posted
use Rattle.shared_queue.specs.Calls.{PostedBy}
use Rattle.handler_post.specs.declared.way.Way.{Way}
use Rattle.handler_post.specs.declared.values.SentWith.{SentWith}
use Rattle.handler_post.specs.declared.values.SentWith.TheVariants.{Accepted, Refused, Full, NoMemory}
use Rattle.handler_post.specs.Supply.{letter_of, NoneWasFree, Obtains, ObtainsInVain}
use Rattle.handler_post.specs.Ways.{Sender, MadeNone}

-- the claim is on a slot, and a value is in it of which this is seen
abbrev pub HasContent : List ℕ → Claimed → Type 0
HasContent content c = c.content ≡ Some content

-- a message with these fields and a value of which this is seen was obtained
abbrev pub IsLoaded : TableId → Post → List ℕ → Tally → Tally → Node → Type 0
IsLoaded home p content before after node = (c : Claimed) × (node ≡ letter_of p (Some c)) × HasContent content c × Obtains home (Some c) before after

-- a message with these fields and this value was obtained and posted: the queue took it with its value, or else a value is handed back of which the same
-- is seen; where no slot was to be had, the value itself is, and nothing was posted
abbrev pub SendingWith : {V : Type 0} → (V → List ℕ) → TableId → Post → V → Sender → Sender → Tally → Tally → SentWith V → Type 0
SendingWith content home p value poster poster' pass pass' (Accepted number wake) =
    (c : Claimed) × PostedBy poster poster' (letter_of p (Some c)) (posted.Accepted number wake) × HasContent (content value) c
    × Obtains home (Some c) pass pass'
SendingWith content home p value poster poster' pass pass' (Refused place back) =
    (c : Claimed) × PostedBy poster poster' (letter_of p (Some c)) (posted.Refused place (letter_of p (Some c))) × HasContent (content value) c
    × ObtainsInVain home (Some c) pass pass' × (content back ≡ content value)
SendingWith content home p value poster poster' pass pass' (Full back) = (poster' ≡ poster) × NoneWasFree pass pass' × (back ≡ value)
SendingWith content home p value poster poster' pass pass' (NoMemory back) =
    (c : Claimed) × MadeNone poster poster' × ObtainsInVain home (Some c) pass pass' × (content back ≡ content value)

abbrev pub SendsWith : {R P : Type 0} → (P → List ℕ) → Post → P → Way R P → Way R P → SentWith P → Type 0
SendsWith content p value before after result =
    SendingWith content before.pool.now p value before.poster.now after.poster.now before.pass.now after.pass.now result
