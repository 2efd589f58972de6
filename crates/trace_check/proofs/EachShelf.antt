-- What holds of the shelf of each shape.
use Rattle.trace_check.specs.declared.label.Shape.{Shape}
use Rattle.trace_check.specs.declared.label.Shape.TheVariants.{Asynchronous, Token, What, WhatObject, Callback, CallbackObject, Any, AnyObject}
use Rattle.trace_check.specs.declared.shelf.Shelf.{Shelf}
use Rattle.trace_check.specs.declared.shelves.Shelves.{Shelves}
use Rattle.trace_check.specs.Shelves.{IsBare, AreBare, shelf_of}

pub each_shelf : (R : Shape → Shelf → Shelf → Type 0) (s t : Shelves) → R Asynchronous s.asynchronous t.asynchronous → R Token s.token t.token → R What s.what t.what → R WhatObject s.what_object t.what_object
    → R Callback s.callback t.callback → R CallbackObject s.callback_object t.callback_object → R Any s.any t.any → R AnyObject s.any_object t.any_object
    → (shape : Shape) → R shape (shelf_of shape s) (shelf_of shape t)
each_shelf R s t a b c d e f g h Asynchronous = a
each_shelf R s t a b c d e f g h Token = b
each_shelf R s t a b c d e f g h What = c
each_shelf R s t a b c d e f g h WhatObject = d
each_shelf R s t a b c d e f g h Callback = e
each_shelf R s t a b c d e f g h CallbackObject = f
each_shelf R s t a b c d e f g h Any = g
each_shelf R s t a b c d e f g h AnyObject = h

pub each_bare : (s : Shelves) → IsBare s.asynchronous → IsBare s.token → IsBare s.what → IsBare s.what_object → IsBare s.callback → IsBare s.callback_object → IsBare s.any → IsBare s.any_object → AreBare s
each_bare s = each_shelf (λ _ _ f. IsBare f) s s
