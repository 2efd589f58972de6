-- The moments of a clock.
use Rattle.std.specs.Prelude.{◌≡◌, ℕ, ◌-◌, Bool, true}

-- a moment is what a number that the clock shows is past the start
pub record IsMoment (shows : ℕ → Bool) (start now : ℕ) : Type 0 where
  pub reading : ℕ
  pub shown : shows reading ≡ true
  pub since : now ≡ reading - start
