-- Texts that are read line by line.
use Rattle.std.specs.Prelude.{ℕ, ◌+◌, ◌==◌, Bool, true, false, ◌&&◌, List, [], ◌∷◌, length, Option, Some, None, Result, Ok, Err, if◌then◌else◌}
use Rattle.std.specs.Option.{option_and_then}
use Rattle.line_words.specs.Words.{pieces}
use Rattle.line_words.specs.Refusing.{Language}

-- how the lines of a text are read: the draft before the first line, what the bytes of a line say, the draft with one more line
-- where the line may come next, whether the text may end there, and what it then is the text of
pub record Reading (L D T : Type 0) : Type 0 where
  pub start : D
  pub line_of : List ℕ → Option L
  pub next : D → L → Option D
  pub is_end : D → Bool
  pub whole : D → T

-- the draft with one more line of bytes
abbrev pub next_line : {L D T : Type 0} → Reading L D T → D → List ℕ → Option D
next_line r d bytes = option_and_then (r.next d) (r.line_of bytes)

-- what a call answered, and the draft that it left, as what the line makes
abbrev pub answered : {D : Type 0} → Bool → D → Option D
answered true d = Some d
answered false d = None

-- the rest is read after a good line; a bad one is the answer
abbrev pub goes_on_plain : {D T : Type 0} → ℕ → Option D → (D → Result T ℕ) → Result T ℕ
goes_on_plain k (Some d) rest = rest d
goes_on_plain k None rest = Err k

-- what the pieces from line k on are the text of, or the first line that may not come where it stands
unfoldable pub read_plain_from : {L D T : Type 0} → Reading L D T → ℕ → D → List (List ℕ) → Result T ℕ
read_plain_from r k d [] = Err k
read_plain_from r k d (rest ∷ []) = if length rest == 0 && r.is_end d then Ok (r.whole d) else Err k
read_plain_from r k d (line ∷ piece ∷ more) = goes_on_plain k (next_line r d line) (λ e. read_plain_from r (k + 1) e (piece ∷ more))

-- what a text is the text of, or the first line that may not come where it stands
abbrev pub read_plain : {L D T : Type 0} → Reading L D T → List ℕ → Result T ℕ
read_plain r b = read_plain_from r 1 r.start (pieces b)

-- a line is refused where it may not come, and for no cause
abbrev pub refused : {D : Type 0} → Option D → Option (Unit {0})
refused (Some d) = None
refused None = Some tt

-- what a line that may come next makes of a draft; no other line changes it
abbrev pub taken_or : {D : Type 0} → D → Option D → D
taken_or d (Some e) = e
taken_or d None = d

-- the language of lines that are refused without a cause
abbrev pub plain : {L D T : Type 0} → Reading L D T → Language L D T (Unit {0})
plain r = record {
  start = r.start;
  line_of = r.line_of;
  next = λ d l. taken_or d (r.next d l);
  cause = λ k d said. refused (option_and_then (r.next d) said);
  stop = λ k d rest. if length rest == 0 && r.is_end d then None else Some tt;
  whole = r.whole;
}
