-- Words on lists that more than one crate above uses.
use Rattle.std.specs.Prelude.{ℕ, ◌+◌, cond, nat_lt, List, [], ◌∷◌, length}

-- f of each, added up; it computes from the front
abbrev pub total : {A : Type 0} → (A → ℕ) → List A → ℕ
total f [] = 0
total f (x ∷ xs) = f x + total f xs

-- the longer of two lists, the first where they are as long
abbrev pub longer : {A : Type 0} → List A → List A → List A
longer xs ys = cond (nat_lt (length xs) (length ys)) ys xs
