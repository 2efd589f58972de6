-- The last element of a list.
use Rattle.std.proofs.Common.{◌≡◌, ◌<◌, ◌+◌, ℕ, List, [], ◌∷◌, ◌++◌, length, ap, ◌∙◌, subst, arith, length-append, Option, Some}
use Rattle.std.specs.Prelude.{slice_index_or}
use Rattle.std.specs.Option.{option_to_list}
use Rattle.std.proofs.lemmas.List.{get_or_append_left}
use Rattle.std.proofs.Math.Seq.{get_or-append_seam}

-- where the last element left, what holds of each element by its place holds of it, and of the others
pub popped : {T : Type 0} (P : ℕ → T → Type 0) (old new : List T) (result : Option T) (x : T) → old ≡ new ++ option_to_list result → result ≡ Some x → ((k : ℕ) (d : T) → k < length old → P k (slice_index_or old k d))
    → P (length new) x × ((k : ℕ) (d : T) → k < length new → P k (slice_index_or new k d)) × (length old ≡ length new + 1)
popped P old new result x parts is each =
    let whole : old ≡ new ++ x ∷ [] = parts ∙ ap (λ r. new ++ option_to_list r) is in
    let sum = length-append new (x ∷ []) in
    let long : length old ≡ length (new ++ x ∷ []) = ap length whole in
    let count : length old ≡ length new + 1 = omega (arith, sum, long) in
    let lt : length new < length old = omega (arith, count) in
    let at : slice_index_or old (length new) x ≡ x = ap (λ l. slice_index_or l (length new) x) whole ∙ get_or-append_seam new x [] x in (
      subst (λ y. P (length new) y) at (each (length new) x lt),
      λ k d less. let less' : k < length old = omega (arith, count, less) in
          let front : slice_index_or old k d ≡ slice_index_or new k d = ap (λ l. slice_index_or l k d) whole ∙ get_or_append_left new (x ∷ []) d k less in
          subst (λ y. P k y) front (each k d less'),
      count,
    )
