-- Bytes in which no element begins.
use Rattle.std.proofs.Common.{◌≡◌, ◌==◌, ℕ, List, ◌++◌, Bool, true, false, ◌||◌, refl, sym, ap, ◌∙◌}
use Rattle.std.specs.List.{list_any}
use Rattle.std.proofs.lemmas.List.Folds.{list_any-append}
use Rattle.run_picture.specs.Drawn.{HasNoElement, beginning}
use Rattle.run_picture.specs.Flat.{IsFlat}

pub flat_append : (xs ys : List ℕ) → IsFlat xs → IsFlat ys → IsFlat (xs ++ ys)
flat_append xs ys a b = list_any-append (λ c. c == 40) xs ys ∙ rw (a, b) refl

or_true : (x y : Bool) → ((x || true) || y) ≡ true
or_true true y = refl
or_true false y = refl

-- an element begins with a parenthesis
pub bare : (b : List ℕ) → IsFlat b → HasNoElement b
bare b flat before after e =
    let some : list_any (λ c. c == 40) b ≡ true =
    ap (list_any (λ c. c == 40)) e ∙ list_any-append (λ c. c == 40) (before ++ beginning) after
    ∙ ap (λ x. x || list_any (λ c. c == 40) after) (list_any-append (λ c. c == 40) before beginning)
    ∙ or_true (list_any (λ c. c == 40) before) (list_any (λ c. c == 40) after)
    in let wrong : false ≡ true = sym flat ∙ some in cc
