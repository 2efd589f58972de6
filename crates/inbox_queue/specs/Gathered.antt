-- How a block's posts go through an inbox.
use Rattle.std.specs.Prelude.{◌≡◌, ◌<◌, ◌==◌, ℕ, List, length, map, Option, Some, None, slice_index_or, if◌then◌else◌}
use mathlib.Core.List.{IsPrefix}
use Rattle.loop_model.specs.declared.post.Post.{Post}
use Rattle.dash_script.specs.declared.script.Block.{Block}
use Rattle.dash_script.specs.declared.script.Line.{Line}
use Rattle.dash_script.specs.declared.script.Script.{Script}
use Rattle.inbox_queue.specs.Handed.{PutPosts}
use Rattle.inbox_queue.specs.Plans.{planned_posts, post_by}

-- the post of a line at the time of its block, where it is a post of this thread
abbrev pub post_of_line : Script → ℕ → ℕ → Line → Option Post
post_of_line s time thread l = if l.thread == thread then post_by s time l.command else None

-- the posts that the block plans for the sender's thread
abbrev pub planned_for : Script → Block → ℕ → List Post
planned_for s b number = planned_posts s b.time number b.lines

-- it is the same sender, and it has put a beginning of these posts
pub record PutsOf (before after : PutPosts) (posts : List Post) : Type 0 where
  pub inbox : after.inbox ≡ before.inbox
  pub number : after.number ≡ before.number
  pub put : IsPrefix after.put posts

-- each is the same sender, and has put a beginning of the posts that its lines plan
abbrev pub EachPuts : Script → Block → List PutPosts → List PutPosts → Type 0
EachPuts s b before after = (k : ℕ) (d : PutPosts) → k < length before → PutsOf (slice_index_or before k d) (slice_index_or after k d) (planned_for s b k)

-- each sender has put a beginning of the posts that its lines plan
abbrev pub PutBeginnings : Script → Block → List PutPosts → Type 0
PutBeginnings s b senders = (k : ℕ) (d : PutPosts) → k < length senders → IsPrefix (slice_index_or senders k d).put (planned_for s b k)

-- each sender has put all the posts that its lines plan
abbrev pub HavePut : Script → Block → List PutPosts → Type 0
HavePut s b senders = (k : ℕ) (d : PutPosts) → k < length senders → (slice_index_or senders k d).put ≡ planned_for s b k

-- what each sender has put, as the admitter keeps it
abbrev pub all_put : List PutPosts → List (Option (List Post))
all_put senders = map (λ s. Some s.put) senders
