-- Counts of the messages in a queue, by their handlers and kinds.
use Rattle.std.specs.Prelude.{ℕ, ◌+◌, ◌-◌, ◌*◌, ◌%◌, ◌^◌, ◌<◌, ◌≤◌, ◌==◌, ◌&&◌, min, Bool, false, List, length, Option, Some, None, nat_lt}
use Rattle.std.specs.Prelude.{slice_index, slice_set}
use Rattle.std.specs.List.{count_by}
use Rattle.std.specs.Option.{option_map}
use Rattle.loop_model.specs.declared.item.Item.{Item}
use Rattle.loop_model.specs.declared.item.Item.TheVariants.{Post as Message, Barrier as SyncBarrier}
use Rattle.loop_model.specs.declared.post.Kind.TheVariants.{What, Callback, All as AnyKind}
use Rattle.loop_model.specs.declared.post.Kind.{Kind}
use Rattle.loop_model.specs.declared.post.Filter.{Filter}
use Rattle.loop_model.specs.Items.{is_just}
use Rattle.message_slot.specs.Letter.{Letter}

-- the place of a handler with a what or a callback
abbrev pub place_of : ℕ → ℕ → ℕ
place_of handler kind = (handler % 16) * 16 + kind % 16

-- the place of a message by its what, and by its callback
abbrev pub what_place : Item → Option ℕ
what_place (Message n p) = Some (place_of p.handler p.what)
what_place (SyncBarrier t w) = None

abbrev pub callback_place : Item → Option ℕ
callback_place (Message n p) = option_map (place_of p.handler) p.callback
callback_place (SyncBarrier t w) = None

-- the counts with one more, and with one less, at this place
abbrev pub with_more : Option ℕ → List ℕ → List ℕ
with_more None cs = cs
with_more (Some k) cs = slice_set cs k (min (slice_index cs k + 1) (2 ^ 64 - 1))

abbrev pub with_fewer : Option ℕ → List ℕ → List ℕ
with_fewer None cs = cs
with_fewer (Some k) cs = slice_set cs k (slice_index cs k - 1)

-- the count at the place is 0
abbrev pub counts_none : List ℕ → ℕ → Bool
counts_none cs k = nat_lt k (length cs) && (slice_index cs k == 0)

-- the counts show that the filter names no message
abbrev pub rules_out_kind : List ℕ → List ℕ → ℕ → Kind → Bool
rules_out_kind whats callbacks handler (What w) = counts_none whats (place_of handler w)
rules_out_kind whats callbacks handler (Callback c) = counts_none callbacks (place_of handler c)
rules_out_kind whats callbacks handler AnyKind = false

abbrev pub rules_out : List ℕ → List ℕ → Filter → Bool
rules_out whats callbacks f = rules_out_kind whats callbacks f.handler f.kind

module _ {K : Type 0} where
  -- at each place no more messages stand than are counted
  abbrev pub IsCounted : (Item → Option ℕ) → List ℕ → List (Letter K) → Type 0
  IsCounted place cs xs = (k : ℕ) → k < length cs → count_by (λ m. is_just (place m.item) k) xs ≤ slice_index cs k

  abbrev pub IsTallied : List ℕ → List ℕ → List (Letter K) → Type 0
  IsTallied whats callbacks xs = IsCounted what_place whats xs × IsCounted callback_place callbacks xs
