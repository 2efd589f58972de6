-- The posts that a history accepts, which are numbered from 0 in order, and the time of a delayed one.
use Rattle.std.specs.Prelude.{ℕ, ◌+◌, ◌-◌, ◌^◌, min, List, Option, Some, None, slice_get, if◌then◌else◌}
use Rattle.std.specs.List.{filter_map}
use Rattle.loop_model.specs.declared.post.Post.{Post as PostData}
use Rattle.loop_model.specs.declared.call.Call.{Call}
use Rattle.loop_model.specs.declared.call.Call.TheVariants.{Post}
use Rattle.loop_model.specs.declared.reply.Reply.{Reply}
use Rattle.loop_model.specs.declared.entry.Entry.{Entry}
use Rattle.loop_model.specs.Entries.{is_accepted}

-- the post that a call with this reply adds, where it adds one
abbrev pub accepted_by : Call → Reply → Option PostData
accepted_by (Post p) r = if is_accepted r then Some p else None
accepted_by _ r = None

-- the post that an entry adds, where it adds one
abbrev pub accepted_post : Entry → Option PostData
accepted_post e = accepted_by e.call e.reply

-- the accepted posts, in order
abbrev pub accepted_posts : List Entry → List PostData
accepted_posts entries = filter_map accepted_post entries

-- the accepted post of this number, counted from 0
abbrev pub post_at : List Entry → ℕ → Option PostData
post_at entries n = slice_get (accepted_posts entries) n

-- the moment after this delay, but no later than the last one of 64 bits
abbrev pub moment_after : ℕ → ℕ → ℕ
moment_after now delay = min (now + delay) (2 ^ 64 - 1)
