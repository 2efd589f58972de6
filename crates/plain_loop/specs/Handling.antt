-- Which loopers a dispatcher over handlers serves, what its handlers are told of the message, and what it answers.
use Rattle.std.specs.Prelude.{◌≡◌, ℕ, List, [], ◌∷◌, ◌++◌, Some, Result, Ok, Err}
use Rattle.loop_model.specs.declared.entry.Entry.{Entry}
use Rattle.loop_model.specs.declared.post.Post.{Post}
use Rattle.loop_model.specs.Posts.{post_at}
use Rattle.loop_model.specs.declared.memory.NoMemory.{NoMemory as Wanting}
use Rattle.looper_run.specs.declared.dispatcher.Did.{Did}
use Rattle.looper_run.specs.declared.dispatcher.Did.TheVariants.{Yes, NoMemory}
use Rattle.atomic_table.specs.Seated.{TableId}
use Rattle.shared_queue.specs.Known.{Shared}
use Rattle.looper_run.specs.Holding.{Sender, Workplace}
use Rattle.looper_run.specs.Tests.{IsTake}

-- the looper is this queue's, its pass is one of the pool, and the queue's messages are the pool's
pub record IsWorkplaceOf (queue : Shared TableId) (pool : TableId) (w : Workplace) : Type 0 where
  pub table : w.table ≡ queue.table
  pub constants : w.constants ≡ Some queue.constants
  pub pass : w.pool ≡ pool
  pub home : queue.constants.home ≡ pool

-- what a dispatcher answers whose code ended so
abbrev pub did_of : Result (Unit {0}) Wanting → Did
did_of (Ok done) = Yes
did_of (Err e) = NoMemory

-- the last entry that this sender saw is its own look, which took the message of this number and these fields at this moment
pub record HasJustTaken (p : Sender) (number : ℕ) (post : Post) (now : ℕ) : Type 0 where
  pub past : List Entry
  pub take : Entry
  pub seen : p.view.seen ≡ past ++ take ∷ []
  pub is_take : IsTake p.sender now number take
  pub post_is : post_at past number ≡ Some post

-- the same of a message with this callback
abbrev pub HasJustTakenCallback : Sender → ℕ → ℕ → ℕ → Type 0
HasJustTakenCallback p number id now = (post : Post) × HasJustTaken p number post now × (post.callback ≡ Some id)
