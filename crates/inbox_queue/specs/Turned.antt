-- One turn at the queue of an inbox run, before the other sender has heard of it.
use Rattle.std.specs.Prelude.{◌≡◌, ◌⊎◌, ℕ, Bool, false, List}
use Rattle.atomic_table.specs.Seated.{TableId}
use Rattle.loop_model.specs.declared.post.Post.{Post as PostData}
use Rattle.message_pool.specs.Passes.{Claimed, Node}
use Rattle.message_slot.specs.Letter.{post_of}
use Rattle.queue_state.specs.declared.answers.Posted.TheVariants as posted
use Rattle.queue_state.specs.declared.answers.Nexted.TheVariants as nexted
use Rattle.queue_state.specs.declared.answers.Advancing.TheVariants as advancing
use Rattle.shared_queue.specs.Known.{Known}
use Rattle.shared_queue.specs.Calls.{PostedBy, NextedBy, AdvancedBy}
use Rattle.inbox_queue.specs.declared.main_queue.Look.{Look}
use Rattle.inbox_queue.specs.declared.main_queue.Look.TheVariants.{Taken, Waits, Other}
use Rattle.inbox_queue.specs.declared.main_queue.Move.{Move}
use Rattle.inbox_queue.specs.declared.main_queue.Move.TheVariants.{There, Stays, NoMemory}
use Rattle.inbox_queue.specs.InboxRun.{unslotted}

-- a sender of a queue whose messages are of a pool
abbrev pub Sender : Type 0
Sender = Known TableId Claimed

-- a look, by its answer
abbrev pub LookedBy : Sender → Sender → Look → Type 0
LookedBy before after Taken = (n : ℕ) × (at : ℕ) × (node : Node) × NextedBy before after 0 false (nexted.Taken n at node)
LookedBy before after (Waits until) = NextedBy before after 0 false (nexted.Wait until)
LookedBy before after Other =
    NextedBy before after 0 false nexted.Idle ⊎ ((list : List Node) × NextedBy before after 0 false (nexted.End list))
    ⊎ NextedBy before after 0 false nexted.Over

-- a move of the time, by its answer
abbrev pub MovedBy : Sender → Sender → ℕ → Move → Type 0
MovedBy before after time There = AdvancedBy before after time advancing.Advanced ⊎ ((t : ℕ) × AdvancedBy before after time (advancing.Reached t))
MovedBy before after time Stays = AdvancedBy before after time advancing.Over ⊎ ((n : ℕ) × AdvancedBy before after time (advancing.NotDrained n))
MovedBy before after time NoMemory = AdvancedBy before after time advancing.NoMemory

-- a message with the fields of this post, but for the slot
abbrev pub HasFields : PostData → Node → Type 0
HasFields p node = unslotted (post_of node.item) ≡ unslotted p

-- a post that made an entry
abbrev pub PostsBy : PostData → Sender → Sender → Type 0
PostsBy p before after =
    (node : Node) × HasFields p node
    × (((n : ℕ) × (wake : Bool) × PostedBy before after node (posted.Accepted n wake)) ⊎ ((place : ℕ) × PostedBy before after node (posted.Refused place node)))
