-- Bytes in which no parenthesis opens, so that nothing is moved in them.
use Rattle.std.specs.Prelude.{◌≡◌, ℕ, ◌==◌, false, List}
use Rattle.std.specs.List.{list_any}

-- no parenthesis opens
abbrev pub IsFlat : List ℕ → Type 0
IsFlat b = list_any (λ c. c == 40) b ≡ false
