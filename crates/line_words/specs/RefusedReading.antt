-- How a text whose lines may be refused is read.
use Rattle.std.specs.Prelude.{◌+◌, ℕ, List, [], ◌∷◌, Option, Some, None, Result, Ok, Err}
use Rattle.line_words.specs.Words.{pieces}
use Rattle.line_words.specs.Refusing.{Language, with_said, first_cause}

-- the rest is read behind a line without a cause; a cause is the refusal
abbrev pub goes_on : {D T C : Type 0} → ℕ → Option C → D → (D → Result T (ℕ × C)) → Result T (ℕ × C)
goes_on k None d rest = rest d
goes_on k (Some c) d rest = Err (k, c)

-- what is held behind line k, which has a line feed, or the line with the first cause that it has
abbrev pub line_read : {L D T C : Type 0} → Language L D T C → ℕ → D → List ℕ → Result D (ℕ × C)
line_read r k d bytes = goes_on k (r.cause k d (r.line_of bytes)) (with_said r d (r.line_of bytes)) (λ e. Ok e)

-- what the pieces from line k on are the text of, or the first line of them that has a cause, with the first one that it has
unfoldable pub read_from : {L D T C : Type 0} → Language L D T C → ℕ → D → List (List ℕ) → Result T (ℕ × C)
read_from r k d [] = Ok (r.whole d)
read_from r k d (p ∷ ps) = goes_on k (first_cause r k d (p ∷ ps)) (with_said r d (r.line_of p)) (λ e. read_from r (k + 1) e ps)

-- what a text is the text of, or its least line that has a cause
abbrev pub read_text : {L D T C : Type 0} → Language L D T C → List ℕ → Result T (ℕ × C)
read_text r b = read_from r 1 r.start (pieces b)

-- what lines from line k on are the text of, or the first of them that has a cause
unfoldable pub run : {L D T C : Type 0} → Language L D T C → ℕ → D → List L → Result T (ℕ × C)
run r k d [] = goes_on k (r.stop k d []) d (λ e. Ok (r.whole e))
run r k d (l ∷ ls) = goes_on k (r.cause k d (Some l)) (r.next d l) (λ e. run r (k + 1) e ls)
