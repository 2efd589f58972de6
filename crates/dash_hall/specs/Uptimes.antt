-- The moments of a clock in nanoseconds, as a test.
use Rattle.std.specs.Prelude.{ℕ, zero, suc, ◌-◌, ◌^◌, ◌==◌, Bool, false, ◌&&◌, ◌||◌}
use Rattle.run_model.specs.FrameRecords.{nanos_of}

-- whether a number below this one passes the test
unfoldable pub has_below : ℕ → (ℕ → Bool) → Bool
has_below zero test = false
has_below (suc n) test = test n || has_below n test

-- whether it is what some number of 64 bits that the clock shows is past the start, in nanoseconds
abbrev pub is_shown : (ℕ → Bool) → ℕ → ℕ → Bool
is_shown shows start nanos = has_below (2 ^ 64) (λ reading. shows reading && nanos == nanos_of (reading - start))
