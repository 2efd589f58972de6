-- What is left of a text or of a number while it is read.
use Rattle.std.specs.Prelude.{ℕ, ◌&&◌, nat_lt, ◌^◌, ◌+◌, ◌*◌, ◌-◌, List, [], ◌∷◌, Option, Some, None, if◌then◌else◌}
use Rattle.std.specs.Char.{is_ascii_digit}
use Rattle.line_words.specs.Words.{parts}

-- the parts of what is left, and none past the end
abbrev pub parts_left : ℕ → Option (List ℕ) → List (List ℕ)
parts_left byte None = []
parts_left byte (Some rest) = parts byte rest

-- the number that digits write after those of a number, where it is below 2 to the 64
unfoldable pub digits_from : ℕ → List ℕ → Option ℕ
digits_from n [] = Some n
digits_from n (c ∷ cs) = if is_ascii_digit c && nat_lt (n * 10 + (c - 48)) (2 ^ 64) then digits_from (n * 10 + (c - 48)) cs else None
