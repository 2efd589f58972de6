-- A call on what stands behind an open handle.
use Rattle.std.proofs.Common.{◌≡◌, sym, subst}
use Rattle.std.specs.Prelude.{Option, Some}
use Rattle.loop_sources_c.specs.Contents.{Contents}
use Rattle.loop_sources_c.specs.Handed.{Does}

-- k is what was taken out of the handle, x what the call found, y what it left
pub done_by : (a b : Option Contents) (k x y : Contents) (R : Type 0) (made : Contents → Contents → Type 0)
    → a ≡ Some k → x ≡ k → b ≡ Some y → made x y → Does a b R made
done_by a b k x y R made ea ek eb m =
    subst (λ (o : Option Contents). Does o b R made) (sym ea) (subst (λ (z : Contents). Does (Some z) b R made) ek (y, eb, m))
