-- Pieces that are appended, one for each element of a list.
use Rattle.std.proofs.Common.{◌≡◌, ◌<◌, ◌+◌, ℕ, List, ◌++◌, length, get_or, take, sym, ap, ◌∙◌}
use Rattle.std.specs.List.{flat_map}
use Rattle.std.proofs.lemmas.List.{flat_map_more, take_more}

-- the piece of one element more
pub piece_more : {X A : Type 0} (f : X → List A) (xs : List X) (i : ℕ) (d : X) (was now next : List A) → i < length xs → now ≡ was ++ flat_map f (take i xs)
    → next ≡ now ++ f (get_or xs i d) → next ≡ was ++ flat_map f (take (i + 1) xs)
piece_more f xs i d was now next lt e more =
    more ∙ ap (λ l. l ++ f (get_or xs i d)) e ∙ flat_map_more f was (take i xs) (get_or xs i d) ∙ ap (λ l. was ++ flat_map f l) (sym (take_more xs i d lt))
