-- The message and the filter of each form.
use Rattle.std.specs.Prelude.{ℕ, Option, Some, None}
use Rattle.loop_model.specs.declared.post.Post.{Post}
use Rattle.loop_model.specs.declared.post.Filter.{Filter}
use Rattle.loop_model.specs.declared.post.Kind.{Kind}
use Rattle.handler_post.specs.declared.handler.Handler.{Handler}

-- a message of this handler, which has no slot yet
abbrev pub message_by : Handler → ℕ → ℕ → Option ℕ → ℕ → Post
message_by h what arg obj when =
    record { handler = h.id; what = what; arg = arg; obj = obj; callback = None; when = when; asynchronous = h.asynchronous; slot = None }

-- a callback of this handler, with the token by which it may be removed
abbrev pub callback_by : Handler → ℕ → Option ℕ → ℕ → Post
callback_by h callback token when =
    record { handler = h.id; what = 0; arg = 0; obj = token; callback = Some callback; when = when; asynchronous = h.asynchronous; slot = None }

-- messages of this handler
abbrev pub filter_by : Handler → Kind → Option ℕ → Filter
filter_by h kind obj = record { handler = h.id; kind = kind; obj = obj }
