-- The message that a handler obtains, and what recycling leaves of it.
use Rattle.std.specs.Prelude.{◌≡◌, ℕ, ◌+◌, ◌<◌, ◌≤◌, ◌⊎◌, List, Option, Some, None, is_some, count_by}
use Rattle.atomic_table.specs.Seated.{TableId}
use Rattle.loop_model.specs.declared.post.Post.{Post}
use Rattle.message_slot.specs.Letter.{slot_by, posted}
use Rattle.message_pool.specs.Passes.{Claimed, Node, Tally}
use Rattle.message_pool.specs.Obtain.{HasTakenSlot}

-- the slot of a claim, where there is one
abbrev pub slot_in : Option Claimed → Option ℕ
slot_in claim = slot_by (λ c. Some c.slot) claim

-- the message with these fields and this claim, which no queue has numbered
abbrev pub letter_of : Post → Option Claimed → Node
letter_of p claim = record { item = posted (slot_in claim) p; claim = claim }

-- the free slots were read in this call, and none was free at the last reading, or fifty claims were lost: no slot was taken
abbrev pub NoneWasFree : Tally → Tally → Type 0
NoneWasFree before after = (before.looks < after.looks) × ((after.last ≡ 0) ⊎ (after.lost ≡ before.lost + 50)) × (after.back ≡ before.back)
    × (after.taken ≡ before.taken) × (after.share ≡ before.share)

-- the pass obtained a message with this claim, and counts its slot: it has none only where no slot was to be had
abbrev pub Obtains : TableId → Option Claimed → Tally → Tally → Type 0
Obtains home None before after = NoneWasFree before after
Obtains home (Some c) before after = (c.home ≡ home) × (c.slot < 50) × HasTakenSlot before after

-- the pass obtained a message with this claim, and gave its slot back
abbrev pub ObtainsInVain : TableId → Option Claimed → Tally → Tally → Type 0
ObtainsInVain home None before after = NoneWasFree before after
ObtainsInVain home (Some c) before after =
    (c.home ≡ home) × (c.slot < 50) × (after.back ≡ before.back + 1) × (before.looks ≤ after.looks) × (before.lost ≤ after.lost)
    × (after.taken ≡ before.taken + 1) × (after.share ≡ before.share)

-- how many of the messages have a slot
abbrev pub slots_in : List Node → ℕ
slots_in nodes = count_by (λ m. is_some m.claim) nodes

-- the pass brought all these messages back, and took no slot
abbrev pub BringsBack : List Node → Tally → Tally → Type 0
BringsBack nodes before after = (after.back ≡ before.back + slots_in nodes) × (before.looks ≤ after.looks) × (before.lost ≤ after.lost)
    × (after.taken ≡ before.taken) × (after.share ≡ before.share)

-- a message with these fields was obtained, or none
abbrev pub IsObtained : TableId → Post → Tally → Tally → Node → Type 0
IsObtained home p before after node = (claim : Option Claimed) × (node ≡ letter_of p claim) × Obtains home claim before after
