-- What an admitter knows that its senders put.
use Rattle.std.specs.Prelude.{ℕ, List, [], Option, Some, slice_index_or}
use Rattle.loop_model.specs.declared.post.Post.{Post}

-- what the sender of this number had put when it was taken in, or none while it still puts. Nobody else puts anything.
abbrev pub put_by : List (Option (List Post)) → ℕ → Option (List Post)
put_by taken from = slice_index_or taken from (Some [])
