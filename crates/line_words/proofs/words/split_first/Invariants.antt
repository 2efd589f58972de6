use Rattle.std.proofs.Common.{◌≡◌, eqb, take, false}
use Rattle.std.specs.Prelude.{All}
use Rattle.line_words.proofs.words.split_first.Given as goal

abbrev pub invariant-loop-place : goal.invariant-loop-place
invariant-loop-place l = All (λ b. eqb b l.byte ≡ false) (take l.place l.bytes)
