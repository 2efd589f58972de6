-- What holds of each start of a history.
use Rattle.std.specs.Prelude.{◌≡◌, ◌<◌, ◌≤◌, ℕ, ◌==◌, Bool, false, sum, IfSome, All, AllPairs}
use Rattle.loop_model.specs.declared.base.Base.{Base}
use Rattle.loop_model.specs.declared.item.Item.{Item}
use Rattle.loop_model.specs.declared.item.Item.TheVariants.{Post as Message, Barrier as SyncBarrier}
use Rattle.loop_model.specs.Items.{when_of}

-- the number or the token of an item is one that was given before
abbrev pub IsNumberedBelow : ℕ → ℕ → Item → Type 0
IsNumberedBelow posts barriers (Message n p) = n < posts
IsNumberedBelow posts barriers (SyncBarrier t w) = t < barriers

-- two messages with one number, or two barriers with one token
abbrev pub shares_number : Item → Item → Bool
shares_number (Message n p) (Message m q) = n == m
shares_number (SyncBarrier t w) (SyncBarrier u v) = t == u
shares_number _ _ = false

-- items rise by their times, and numbers and tokens are ones that were given, each once
pub record IsWellFormed (b : Base) : Type 0 where
  pub entries : sum b.made ≡ b.length
  pub quit_place : IfSome b.quit (λ place. place < b.length)
  pub ordered : AllPairs (λ x y. when_of x ≤ when_of y) b.items
  pub numbered : All (IsNumberedBelow b.accepted b.barriers) b.items
  pub distinct : AllPairs (λ x y. shares_number x y ≡ false) b.items
