-- Labels of items. What a trace asks for, as the messages of a filter or the barrier of a token, are the items that bear one
-- label of one shape.
use Rattle.std.specs.Prelude.{ℕ, Bool, true, false, Option, Some, None, is_some, unwrap_or, if◌then◌else◌}
use Rattle.std.specs.Option.{option_map, option_and_then}
use Rattle.std.specs.declared.cmp.Ordering.{Ordering}
use Rattle.std.specs.Ordering.{nat_cmp, ordering_then, is_eq}
use Rattle.loop_model.specs.declared.item.Item.{Item}
use Rattle.loop_model.specs.declared.item.Item.TheVariants.{Post as Message, Barrier as SyncBarrier}
use Rattle.loop_model.specs.declared.post.Post.{Post}
use Rattle.loop_model.specs.declared.post.Kind.{Kind}
use Rattle.loop_model.specs.declared.post.Kind.TheVariants.{What as WhatKind, Callback as CallbackKind, All as AnyKind}
use Rattle.loop_model.specs.declared.post.Filter.{Filter}
use Rattle.trace_check.specs.declared.label.Shape.{Shape}
use Rattle.trace_check.specs.declared.label.Shape.TheVariants.{Asynchronous, Token, What, WhatObject, Callback, CallbackObject, Any, AnyObject}

-- a handler, a number and an object, each 0 where the shape has none
abbrev pub Label : Type 0
Label = ℕ × ℕ × ℕ

-- how labels compare
abbrev pub by_label : Label → Label → Ordering
by_label x y = ordering_then (ordering_then (nat_cmp x.0 y.0) (nat_cmp x.1 y.1)) (nat_cmp x.2 y.2)

-- the label of a message's handler and object with this number, where it has an object
abbrev pub object_label : Post → ℕ → Option Label
object_label p n = option_map (λ o. (p.handler, n, o)) p.obj

-- the label of this shape that a message bears, where it bears one
abbrev pub post_label : Shape → Post → Option Label
post_label Asynchronous p = if p.asynchronous then Some (0, 0, 0) else None
post_label Token p = None
post_label What p = Some (p.handler, p.what, 0)
post_label WhatObject p = object_label p p.what
post_label Callback p = option_map (λ c. (p.handler, c, 0)) p.callback
post_label CallbackObject p = option_and_then (λ c. object_label p c) p.callback
post_label Any p = Some (p.handler, 0, 0)
post_label AnyObject p = object_label p 0

-- a barrier bears its token alone
abbrev pub barrier_label : Shape → ℕ → Option Label
barrier_label Token t = Some (0, t, 0)
barrier_label _ t = None

-- the label of this shape that an item bears, where it bears one
unfoldable pub label_of : Shape → Item → Option Label
label_of s (Message n p) = post_label s p
label_of s (SyncBarrier t w) = barrier_label s t

-- there is a label, and it is this one
abbrev pub has_label : Option Label → Label → Bool
has_label None l = false
has_label (Some m) l = is_eq (by_label m l)

-- the item bears this label of this shape
abbrev pub bears : Shape → Label → Item → Bool
bears s l x = has_label (label_of s x) l

-- ---- what a filter asks for

abbrev pub shape_by : Kind → Bool → Shape
shape_by (WhatKind w) false = What
shape_by (WhatKind w) true = WhatObject
shape_by (CallbackKind c) false = Callback
shape_by (CallbackKind c) true = CallbackObject
shape_by AnyKind false = Any
shape_by AnyKind true = AnyObject

abbrev pub number_by : Kind → ℕ
number_by (WhatKind w) = w
number_by (CallbackKind c) = c
number_by AnyKind = 0

-- the shape and the label of the messages that a filter matches
abbrev pub filter_shape : Filter → Shape
filter_shape f = shape_by f.kind (is_some f.obj)

abbrev pub filter_label : Filter → Label
filter_label f = (f.handler, number_by f.kind, unwrap_or f.obj 0)
