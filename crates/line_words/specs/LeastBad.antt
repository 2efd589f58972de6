-- Where a text that is the text of nothing goes wrong.
use Rattle.std.specs.Prelude.{ℕ, ◌-◌, ◌<◌, ◌≤◌, List, [], ◌∷◌, ◌++◌, length, take}
use Rattle.std.specs.List.{flat_map}
use Rattle.line_words.specs.Words.{pieces}

-- the text of something begins with these bytes
abbrev pub Begins : {T : Type 0} → (List ℕ → T → Type 0) → List ℕ → Type 0
Begins {T} IsText b = (t : T) × (more : List ℕ) × IsText (b ++ more) t

-- the first k lines of a text, which have their line feeds
abbrev pub first_lines : ℕ → List ℕ → List ℕ
first_lines k b = flat_map (λ piece. piece ++ 10 ∷ []) (take k (pieces b))

-- this is the least line of the text, counted from 1, that has no line feed or with which the lines up to it begin the text
-- of nothing; or the text stops early, and it is the line behind its last one
pub record IsLeastBad {T : Type 0} (IsText : List ℕ → T → Type 0) (b : List ℕ) (k : ℕ) : Type 0 where
  pub counted : 0 < k
  -- it has a line feed, or it is what stands behind the last line feed
  pub within : k ≤ length (pieces b)
  pub before : Begins IsText (first_lines (k - 1) b)
  pub at : k < length (pieces b) → Begins IsText (first_lines k b) → ⊥
  pub whole : (t : T) → IsText b t → ⊥
