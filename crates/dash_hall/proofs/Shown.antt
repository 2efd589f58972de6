-- A reading of a clock passes the test of its moments.
use Rattle.std.proofs.Common.{◌≡◌, ℕ, zero, suc, ◌-◌, ◌^◌, ◌<◌, Bool, true, sym, ap, ◌∙◌, arith, eq-eqb}
use Rattle.std.specs.Prelude.{◌||◌}
use Rattle.std.proofs.Math.Bool.{or-true}
use Rattle.std.proofs.lemmas.Bool.{and_from}
use mathlib.Core.Logic.{dite}
use native.Mathlib.Decide.{ℕ_discrete}
use Rattle.run_model.specs.FrameRecords.{nanos_of}
use Rattle.dash_hall.specs.Uptimes.{has_below, is_shown}

-- a number below that passes the test
has_at : (n k : ℕ) (test : ℕ → Bool) → k < n → test k ≡ true → has_below n test ≡ true
unfolding has_below
has_at zero k test lt is = absurd (omega (arith, lt))
has_at (suc n) k test lt is = dite (ℕ_discrete k n)
    (λ same. ap (λ b. b || has_below n test) (ap test (sym same) ∙ is))
    (λ other. ap (λ b. test n || b) (has_at n k test (omega (arith, lt, other)) is) ∙ or-true (test n))

-- what a reading is past the start is a moment, in nanoseconds
pub reading_shown : (shows : ℕ → Bool) (start reading now : ℕ) → reading < 2 ^ 64 → shows reading ≡ true → now ≡ reading - start → is_shown shows start (nanos_of now) ≡ true
reading_shown shows start reading now fits shown since =
    has_at (2 ^ 64) reading _ fits (and_from (shows reading) _ shown (eq-eqb (nanos_of now) (nanos_of (reading - start)) (ap nanos_of since)))
