-- That no slot of the pool is lost: each lies with a message of the queue, or goes back to the pool.
use Rattle.std.specs.Prelude.{◌≡◌, ◌+◌, ℕ, zero, suc}
use Rattle.message_pool.specs.Passes.{Tally}
use Rattle.shared_queue.specs.Known.{IsTurn}
use Rattle.handler_post.specs.Supply.{slots_in}
use Rattle.looper_run.specs.Holding.{Sender, State}

-- the pass gave back as many slots as it took
abbrev pub GivesBackAll : Tally → Tally → Type 0
GivesBackAll pass pass' = pass'.taken + pass.back ≡ pass.taken + pass'.back

-- the slots that the queue's messages had and those that the pass took are with its messages now, or the pass gave them back
abbrev pub KeepsSlots : State → State → Tally → Tally → Type 0
KeepsSlots x y pass pass' = slots_in x.messages + pass'.taken + pass.back ≡ slots_in y.messages + pass.taken + pass'.back

-- the sender took so many turns, one after the other, and over all of them together no slot was lost: what the messages had as the turns found them, and what
-- the pass took, is what they had as the turns left them, and what it gave back; for no turn and for one that is exact
abbrev pub LosesNoSlot : ℕ → Sender → Sender → Tally → Tally → Type 0
LosesNoSlot zero before after pass pass' = (after ≡ before) × GivesBackAll pass pass'
LosesNoSlot (suc turns) before after pass pass' =
    (next : Sender) × (kept : Tally) × (x : State) × (y : State) × IsTurn before next x y × KeepsSlots x y pass kept
    × LosesNoSlot turns next after kept pass'
