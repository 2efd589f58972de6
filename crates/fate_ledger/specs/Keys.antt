-- What removals name, as keys that have an order.
use Rattle.std.specs.Prelude.{ℕ, ◌==◌, Bool, true, false, ◌&&◌, Option, Some, None}
use Rattle.std.specs.declared.cmp.Ordering.{Ordering}
use Rattle.loop_model.specs.declared.post.Filter.{Filter}
use Rattle.loop_model.specs.declared.post.Kind.{Kind}
use Rattle.loop_model.specs.declared.post.Kind.TheVariants.{What, Callback, All as AnyKind}
use Rattle.fate_ledger.specs.declared.keys.RemovalKey.{RemovalKey}
use Rattle.fate_ledger.specs.contracts.keys.RemovalKeyOrd.TheImpl as key_ord

-- the order of the keys
abbrev pub key_cmp : RemovalKey → RemovalKey → Ordering
key_cmp = (key_ord.ghosts).cmp

-- what a kind names: the what, and the callback
abbrev pub what_in : Kind → Option ℕ
what_in (What w) = Some w
what_in (Callback c) = None
what_in AnyKind = None

abbrev pub callback_in : Kind → Option ℕ
callback_in (What w) = None
callback_in (Callback c) = Some c
callback_in AnyKind = None

-- what a filter names
abbrev pub removal_key : Filter → RemovalKey
removal_key f = record { handler = f.handler; what = what_in f.kind; callback = callback_in f.kind; obj = f.obj }

-- the same number, or none on both sides
abbrev pub is_same : Option ℕ → Option ℕ → Bool
is_same None None = true
is_same None (Some y) = false
is_same (Some x) None = false
is_same (Some x) (Some y) = x == y

abbrev pub is_same_name : RemovalKey → RemovalKey → Bool
is_same_name x y = x.handler == y.handler && is_same x.what y.what && is_same x.callback y.callback && is_same x.obj y.obj
