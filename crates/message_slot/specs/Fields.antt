-- The fields of a message. Those that it does not have are 0, false or None.
use Rattle.std.specs.Prelude.{ℕ, Bool, Option, Some, None}
use Rattle.loop_model.specs.declared.item.Item.{Item}
use Rattle.loop_model.specs.declared.item.Item.TheVariants.{Post as Message, Barrier as SyncBarrier}
use Rattle.message_slot.specs.Letter.{post_of}

-- a barrier and a cleared message have no handler
abbrev pub handler_of : Item → Option ℕ
handler_of (Message n p) = Some p.handler
handler_of (SyncBarrier t w) = None

abbrev pub what_of : Item → ℕ
what_of item = (post_of item).what

abbrev pub arg_of : Item → ℕ
arg_of item = (post_of item).arg

abbrev pub obj_of : Item → Option ℕ
obj_of item = (post_of item).obj

abbrev pub callback_of : Item → Option ℕ
callback_of item = (post_of item).callback

abbrev pub is_sent_asynchronous : Item → Bool
is_sent_asynchronous item = (post_of item).asynchronous

abbrev pub token_or_0 : Item → ℕ
token_or_0 (Message n p) = 0
token_or_0 (SyncBarrier t w) = t
