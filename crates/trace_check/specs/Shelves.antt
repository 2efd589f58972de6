-- What is kept of the items beside their order: for each label that was named, the ranks of the items that bear it.
use Rattle.std.specs.Prelude.{◌≡◌, ℕ, Bool, List, [], filter, Option, IfSome, if◌then◌else◌}
use Rattle.std.specs.Option.{option_map}
use Rattle.std.specs.declared.cmp.Ordering.{Ordering}
use Rattle.std.specs.Ordering.{nat_cmp, ordering_then}
use Rattle.std.specs.Map.{keys_of}
use Rattle.std.specs.Set.{remove_key}
use Rattle.std.specs.BTreeMap as tree
use Rattle.std.specs.BTreeMap.{is_at}
use Rattle.std.specs.BTreeSet.{insert_key}
use Rattle.loop_model.specs.declared.item.Item.{Item}
use Rattle.trace_check.specs.declared.label.Shape.{Shape}
use Rattle.trace_check.specs.declared.label.Shape.TheVariants.{Asynchronous, Token, What, WhatObject, Callback, CallbackObject, Any, AnyObject}
use Rattle.trace_check.specs.declared.shelf.Shelf.{Shelf}
use Rattle.trace_check.specs.declared.shelves.Shelves.{Shelves}
use Rattle.trace_check.specs.Labels.{Label, by_label, label_of, has_label, bears}

-- how ranks compare
abbrev pub by_rank : ℕ × ℕ → ℕ × ℕ → Ordering
by_rank x y = ordering_then (nat_cmp x.0 y.0) (nat_cmp x.1 y.1)

-- the keys of the values that pass a test, in order
abbrev pub keys_passing : {K X : Type 0} → (X → Bool) → List (K × X) → List K
keys_passing p es = keys_of (filter (λ e. p e.1) es)

-- the ranks that are kept for a label, where it was named
unfoldable pub ranks_at : Shelf → Label → Option (List (ℕ × ℕ))
ranks_at f l = option_map (λ s. s.keys) (tree.get by_label f.ranks l)

-- with the rank put in, or taken out, at the label that an item bears
abbrev pub ranks_with : Option Label → ℕ × ℕ → Label → Option (List (ℕ × ℕ)) → Option (List (ℕ × ℕ))
ranks_with label rank l o = if has_label label l then option_map (λ ks. insert_key by_rank ks rank) o else o

abbrev pub ranks_without : Option Label → ℕ × ℕ → Label → Option (List (ℕ × ℕ)) → Option (List (ℕ × ℕ))
ranks_without label rank l o = if has_label label l then option_map (remove_key (is_at (by_rank rank))) o else o

-- no item is kept for any label
abbrev pub IsBare : Shelf → Type 0
IsBare f = (l : Label) → IfSome (ranks_at f l) (λ ks. ks ≡ [])

-- the labels of one shape
abbrev pub shelf_of : Shape → Shelves → Shelf
shelf_of Asynchronous s = s.asynchronous
shelf_of Token s = s.token
shelf_of What s = s.what
shelf_of WhatObject s = s.what_object
shelf_of Callback s = s.callback
shelf_of CallbackObject s = s.callback_object
shelf_of Any s = s.any
shelf_of AnyObject s = s.any_object

abbrev pub AreBare : Shelves → Type 0
AreBare s = (shape : Shape) → IsBare (shelf_of shape s)

-- the shelves with the rank of an item put in, or taken out, at each named label that it bears
abbrev pub AreWith : Shelves → Shelves → Item → ℕ × ℕ → Type 0
AreWith s t x rank = (shape : Shape) (l : Label) → ranks_at (shelf_of shape t) l ≡ ranks_with (label_of shape x) rank l (ranks_at (shelf_of shape s) l)

abbrev pub AreWithout : Shelves → Shelves → Item → ℕ × ℕ → Type 0
AreWithout s t x rank = (shape : Shape) (l : Label) → ranks_at (shelf_of shape t) l ≡ ranks_without (label_of shape x) rank l (ranks_at (shelf_of shape s) l)

-- for each label that was named, the ranks are those of the items that bear it
unfoldable pub AreShelved : Shelves → List ((ℕ × ℕ) × Item) → Type 0
AreShelved s es = (shape : Shape) (l : Label) → IfSome (ranks_at (shelf_of shape s) l) (λ ks. ks ≡ keys_passing (bears shape l) es)
