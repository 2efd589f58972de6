-- What stands behind a handle, and what each kind of call does to it.
use Rattle.std.specs.Prelude.{◌≡◌, ◌≤◌, ◌⊎◌, ◌==◌, ◌&&◌, ℕ, not, Bool, false, [], ◌∷◌, Option, Some, None, is_some, length, MatchOption}
use Rattle.message_queue_c.specs.Ours.{is_ours, new_queue}
use Rattle.message_queue_c.specs.Blocks.{Blocks, no_blocks}
use Rattle.message_queue_c.specs.declared.answers.MqAnswer.{MqAnswer}
use Rattle.message_queue_c.specs.declared.answers.MqNext.{MqNext}
use Rattle.message_queue_c.specs.Joined.{joined}
use Rattle.message_queue_c.specs.Shown.{Q, Letters, IsNotOpen, answer_as, done_kind, no_memory_kind, look_as, nothing_kind, shown_dropped}

-- the queue, where it is open, the messages and barriers that its calls have dropped and that were not handed out yet, and the blocks
-- that are kept for those to come
pub record Contents : Type 0 where
  pub queue : Option Q
  pub dropped : Letters
  pub blocks : Blocks

-- what stands behind a handle that was closed and from which all was handed out
abbrev pub nothing_in : Contents
nothing_in = record { queue = None; dropped = []; blocks = no_blocks }

abbrev pub holds_nothing : Contents → Bool
holds_nothing c = (length c.dropped == 0) && not (is_some c.queue)

-- what stands behind a handle that was just opened
abbrev pub just_opened : Contents
just_opened = record { queue = Some new_queue; dropped = []; blocks = no_blocks }

-- no block is kept where no queue is open
abbrev pub HasOurs : Option Q → Blocks → Type 0
HasOurs o blocks = MatchOption o (blocks ≡ no_blocks) is_ours

-- a call on a queue that is not open changes nothing, and else it does this to the queue and to what waits to be handed out
abbrev pub Does : Contents → Contents → Type 0 → (Q → Q → Letters → Letters → Type 0) → Type 0
Does a b refused made = MatchOption a.queue (refused × (b ≡ a)) (λ x. (y : Q) × (b.queue ≡ Some y) × made x y a.dropped b.dropped)

-- it does this to the queue, and drops nothing
abbrev pub DropsNone : (Q → Q → Type 0) → Q → Q → Letters → Letters → Type 0
DropsNone made x y ds es = made x y × (es ≡ ds)

-- the queue goes and drops what is in it, and the blocks go; what its calls had dropped goes where it was closed before
abbrev pub Closes : Contents → Contents → MqAnswer → Type 0
Closes a b r =
    (b.queue ≡ None) × (b.blocks ≡ no_blocks)
    × MatchOption a.queue (IsNotOpen r × (b.dropped ≡ [])) (λ x. (r ≡ answer_as done_kind (length b.dropped) false) × (b.dropped ≡ joined a.dropped x.messages))

-- what is handed out of these, and what is left of them
abbrev pub IsHanded : Letters → MqNext → Letters → Type 0
IsHanded [] r es = (r ≡ look_as nothing_kind 0 0) × (es ≡ [])
IsHanded (d ∷ ds) r es = (r ≡ shown_dropped d.item) × (es ≡ ds)

-- the first of what waits is handed out
abbrev pub Pops : Contents → Contents → MqNext → Type 0
Pops a b r = (b.queue ≡ a.queue) × IsHanded a.dropped r b.dropped

-- from now on so many blocks are kept of those that go, and so many are kept, or there was too little memory
abbrev pub KeepsBlocks : Blocks → ℕ → MqAnswer → Type 0
KeepsBlocks blocks count r =
    (blocks.wanted ≡ count) × ((r ≡ answer_as no_memory_kind 0 false) ⊎ ((r ≡ answer_as done_kind 0 false) × (count ≤ blocks.kept)))

-- blocks are made, and nothing else changes
abbrev pub Reserves : Contents → ℕ → MqAnswer → Contents → Type 0
Reserves a count r b =
    MatchOption a.queue (IsNotOpen r × (b ≡ a)) (λ _. (b ≡ record a { blocks = b.blocks }) × KeepsBlocks b.blocks count r)
