-- How many elements of a list pass a test.
use Rattle.std.proofs.Common.{◌≡◌, ◌+◌, Bool, cond, List, ◌++◌, drop, length, sym, ap, ◌∙◌}
use Rattle.std.specs.Prelude.{count_by}
use Rattle.std.proofs.lemmas.List.Sums.{sum_by-append}
use Rattle.std.proofs.Math.Seq.{drop-append_seam}
use mathlib.Core.List.{IsPrefix}

-- as many of two lists pass a test as of each
pub count_both : {X : Type 0} (test : X → Bool) (xs ys : List X) → count_by test (xs ++ ys) ≡ count_by test xs + count_by test ys
count_both test xs ys = sum_by-append (λ x. cond (test x) 1 0) xs ys

-- what stands behind the beginning of a list
pub drop_prefix : {X : Type 0} (xs more ys : List X) → xs ++ more ≡ ys → drop (length xs) ys ≡ more
drop_prefix xs more ys is = ap (drop (length xs)) (sym is) ∙ drop-append_seam xs more

-- a beginning, and what stands behind it, counted
pub count_behind : {X : Type 0} (test : X → Bool) (xs ys : List X) → IsPrefix xs ys → count_by test ys ≡ count_by test xs + count_by test (drop (length xs) ys)
count_behind test xs ys p = ap (count_by test) (sym p.1) ∙ (count_both test xs p.0 ∙ ap (λ l. count_by test xs + count_by test l) (sym (drop_prefix xs p.0 ys p.1)))
