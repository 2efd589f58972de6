-- What contracts see of a message.
use Rattle.std.specs.Prelude.{◌≡◌, ℕ, Option, Some, None, IfSome, false}
use Rattle.loop_model.specs.declared.post.Post.{Post}
use Rattle.loop_model.specs.declared.item.Item.{Item}
use Rattle.loop_model.specs.declared.item.Item.TheVariants.{Post as Message, Barrier as SyncBarrier}

-- a message: what it is in a queue, and the claim that it holds
pub record Letter (K : Type 0) : Type 0 where
  pub item : Item
  pub claim : Option K

-- the slot of a claim
abbrev pub slot_by : {K : Type 0} → (K → Option ℕ) → Option K → Option ℕ
slot_by number None = None
slot_by number (Some k) = number k

-- the item with this slot, where it is a message
abbrev pub with_slot : Option ℕ → Item → Item
with_slot s (Message n p) = Message n (record p { slot = s })
with_slot s (SyncBarrier t w) = SyncBarrier t w

-- no target, and every number 0: the item of a message of which nothing is set
abbrev pub cleared : Item
cleared = SyncBarrier 0 0

-- the item of a message with this slot, of which this or nothing is set
abbrev pub item_in : Option ℕ → Option Item → Item
item_in s None = cleared
item_in s (Some item) = with_slot s item

-- a cleared message without a claim
abbrev pub blank : {K : Type 0} → Letter K
blank = record { item = cleared; claim = None }

-- a cleared message with this claim
abbrev pub claimed : {K : Type 0} → K → Letter K
claimed k = record { item = cleared; claim = Some k }

-- a message that was not numbered yet
abbrev pub posted : Option ℕ → Post → Item
posted s p = Message 0 (record p { slot = s })

-- the message with this number
abbrev pub numbered : ℕ → Item → Item
numbered n (Message m p) = Message n p
numbered n (SyncBarrier t w) = SyncBarrier t w

-- the number of a message
abbrev pub number_in : Item → ℕ
number_in (Message n p) = n
number_in (SyncBarrier t w) = 0

-- the fields of a message; a barrier shows blank ones
abbrev pub post_of : Item → Post
post_of (Message n p) = p
post_of (SyncBarrier t w) = record { handler = 0; what = 0; arg = 0; obj = None; callback = None; when = 0; asynchronous = false; slot = None }

-- the letter with this number
abbrev pub letter_with_number : {K : Type 0} → ℕ → Letter K → Letter K
letter_with_number n m = record { item = numbered n m.item; claim = m.claim }

-- the claim belongs to the home
abbrev pub IsAtHome : {H K : Type 0} → (K → H) → H → Letter K → Type 0
IsAtHome home h m = IfSome m.claim (λ k. home k ≡ h)
