-- Texts whose lines may be refused for a cause.
use Rattle.std.specs.Prelude.{◌≡◌, ◌<◌, ◌+◌, ℕ, List, [], ◌∷◌, fold, take, drop, Option, Some, None}
use Rattle.line_words.specs.Words.{pieces}

-- a language of lines
pub record Language (L D T C : Type 0) : Type 0 where
  -- what is held before the first line
  pub start : D
  -- what the bytes of a line say, where they have a form
  pub line_of : List ℕ → Option L
  -- what is held with one line more
  pub next : D → L → D
  -- the first cause for which what line k says may not come next
  pub cause : ℕ → D → Option L → Option C
  -- why the text may not stop at line k, where these bytes without a line feed are left
  pub stop : ℕ → D → List ℕ → Option C
  -- what lines that hold this are the text of
  pub whole : D → T

-- what is held with what one more line says; a line that has no form says nothing
abbrev pub with_said : {L D T C : Type 0} → Language L D T C → D → Option L → D
with_said r d None = d
with_said r d (Some l) = r.next d l

-- what these lines hold, behind what is held
abbrev pub held_by : {L D T C : Type 0} → Language L D T C → D → List (List ℕ) → D
held_by r d lines = fold (λ e line. with_said r e (r.line_of line)) d lines

-- the first cause of line k, where these pieces are what is left of the text: it has a line feed where another piece stands behind it, and else the
-- text stops here
abbrev pub first_cause : {L D T C : Type 0} → Language L D T C → ℕ → D → List (List ℕ) → Option C
first_cause r k d [] = None
first_cause r k d (rest ∷ []) = r.stop k d rest
first_cause r k d (line ∷ piece ∷ more) = r.cause k d (r.line_of line)

-- the first cause of the line of a text that has n lines before it
abbrev pub cause_behind : {L D T C : Type 0} → Language L D T C → List ℕ → ℕ → Option C
cause_behind r b n = first_cause r (n + 1) (held_by r r.start (take n (pieces b))) (drop n (pieces b))

-- b is a text of t: no line of it has a cause, and t is what the lines hold
pub record IsTextOf {L D T C : Type 0} (r : Language L D T C) (b : List ℕ) (t : T) : Type 0 where
  pub good : (n : ℕ) → cause_behind r b n ≡ None
  pub held : r.whole (held_by r r.start (pieces b)) ≡ t

-- this is the least line of the text, counted from 1, that has a cause, and this is the first cause that it has
pub record IsRefusalOf {L D T C : Type 0} (r : Language L D T C) (b : List ℕ) (line : ℕ) (c : C) : Type 0 where
  -- how many lines stand before it
  pub before : ℕ
  pub number : line ≡ before + 1
  pub good : (n : ℕ) → n < before → cause_behind r b n ≡ None
  pub bad : cause_behind r b before ≡ Some c

-- what a line that has a form is refused for, and what another
abbrev pub form_or : {L C : Type 0} → C → (L → Option C) → Option L → Option C
form_or none cause_of None = Some none
form_or none cause_of (Some l) = cause_of l
