-- Blocks that are kept for messages and barriers to come.
use Rattle.std.specs.Prelude.{◌≡◌, ◌≤◌, ◌+◌, ◌-◌, ℕ, nat_lt, max, if◌then◌else◌}

-- how many are kept, and up to how many of those that go will be
pub record Blocks : Type 0 where
  pub kept : ℕ
  pub wanted : ℕ

abbrev pub no_blocks : Blocks
no_blocks = record { kept = 0; wanted = 0 }

-- one is taken for a message that comes, where one is kept
abbrev pub without_one : Blocks → Blocks
without_one b = record b { kept = b.kept - 1 }

-- that of a message that goes is kept, where more are wanted
abbrev pub with_one : Blocks → Blocks
with_one b = if nat_lt b.kept b.wanted then record b { kept = b.kept + 1 } else b

-- a call takes at most so many, wants as many as before, and keeps none beyond what is wanted
pub record Uses (n : ℕ) (a b : Blocks) : Type 0 where
  pub wanted : b.wanted ≡ a.wanted
  pub left : a.kept ≤ b.kept + n
  pub few : b.kept ≤ max a.kept a.wanted
