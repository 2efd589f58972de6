-- The lines of a text that is read, one after the other.
use Rattle.std.proofs.Common.{◌≡◌, ℕ, List, [], ◌∷◌, Option, Some, None, Result, Err, Bor, ap, ◌∙◌}
use Rattle.std.specs.Prelude.{IfNone}
use Rattle.std.specs.Option.{option_copied}
use Rattle.line_words.specs.Words.{pieces}
use Rattle.line_words.specs.Rests.{parts_left}

abbrev pub failed : {T : Type 0} → ℕ → Result T ℕ
failed k = Err k

pub one_piece : (rest text : List ℕ) (o : Option (Bor (List ℕ))) → o ≡ None → pieces rest ≡ text ∷ parts_left 10 (option_copied o) → pieces rest ≡ text ∷ []
one_piece rest text o none cut = cut ∙ ap (λ x. text ∷ parts_left 10 (option_copied x)) none

pub whole_piece : (rest text : List ℕ) (o : Option (Bor (List ℕ))) → o ≡ None → IfNone o (text ≡ rest) → text ≡ rest
whole_piece rest text None none whole = whole
whole_piece rest text (Some more) none whole = absurd cc
