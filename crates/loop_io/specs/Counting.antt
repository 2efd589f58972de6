-- What counts of faults and takes of bytes say of one call.
use Rattle.std.specs.Prelude.{◌≡◌, ℕ, ◌≤◌, ◌<◌, List, length, Result, MatchResult, IfOk}
use Rattle.loop_io.specs.Causes.{one_more}

-- the count never falls: a call that fails counts one fault, and any other none
pub record HasCause {T E : Type 0} (before now : ℕ) (result : Result T E) : Type 0 where
  pub later : before ≤ now
  pub counts : MatchResult result (λ _. now ≡ before) (λ _. now ≡ one_more before)

-- a write of a piece that is not empty takes a byte
abbrev pub TakesOne : {E : Type 0} → Result ℕ E → List ℕ → Type 0
TakesOne result piece = IfOk result (λ n. 0 < length piece → 0 < n)
