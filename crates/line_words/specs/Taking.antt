-- The words of a line, taken one after another.
use Rattle.std.specs.Prelude.{ℕ, ◌^◌, nat_lt, Bool, true, false, List, [], ◌∷◌, codes, Option, Some, None, if◌then◌else◌}
use Rattle.std.specs.Option.{option_map}
use Rattle.std.specs.Str.{bytes_eq}
use Rattle.line_words.specs.Words.{spelled_number}

-- words that are still to be read
abbrev pub Rest : Type 0
Rest = List (List ℕ)

-- what was read, where anything was, and what is left behind it
abbrev pub read : {A : Type 0} → Option A → Rest → Option (A × Rest)
read None rest = None
read (Some a) rest = Some (a, rest)

-- one thing is read, and what follows by it
abbrev pub and_then : {A C : Type 0} → Option (A × Rest) → (A → Rest → Option C) → Option C
and_then None f = None
and_then (Some p) f = f p.0 p.1

abbrev pub word : Rest → Option (List ℕ × Rest)
word [] = None
word (w ∷ rest) = Some (w, rest)

-- what a line says, where no word is left
abbrev pub whole : {L : Type 0} → L → Rest → Option L
whole l [] = Some l
whole l (w ∷ rest) = None

-- a number below a limit
abbrev pub below : ℕ → ℕ → Option ℕ
below limit n = if nat_lt n limit then Some n else None

-- a word that is written so
unfoldable pub fixed : List ℕ → Rest → Option (Unit {0} × Rest)
fixed spelling rest = and_then (word rest) (λ w more. if bytes_eq w spelling then Some (tt, more) else None)

-- one of two words: true is the first
unfoldable pub either : List ℕ → List ℕ → Rest → Option (Bool × Rest)
either first second rest =
    and_then (word rest) (λ w more. if bytes_eq w first then Some (true, more) else if bytes_eq w second then Some (false, more) else None)

-- a number of 64 bits
unfoldable pub long : Rest → Option (ℕ × Rest)
long rest = and_then (word rest) (λ w more. read (spelled_number w) more)

-- a number of 32 bits
unfoldable pub short : Rest → Option (ℕ × Rest)
short rest = and_then (long rest) (λ n more. read (below (2 ^ 32) n) more)

-- a number of 64 bits behind its name
unfoldable pub counted : List ℕ → Rest → Option (ℕ × Rest)
counted name rest = and_then (fixed name rest) (λ _ more. long more)

-- a number of 64 bits, or the mark of what is absent
unfoldable pub maybe_long : Rest → Option (Option ℕ × Rest)
maybe_long rest = and_then (word rest) (λ w more. read (if bytes_eq w (codes "-") then Some None else option_map Some (spelled_number w)) more)

-- the number, where it is below 2 to the 32
abbrev pub maybe_below : Option ℕ → Option (Option ℕ)
maybe_below None = Some None
maybe_below (Some n) = option_map Some (below (2 ^ 32) n)

-- a number of 32 bits, or the mark of what is absent
unfoldable pub maybe_short : Rest → Option (Option ℕ × Rest)
maybe_short rest = and_then (maybe_long rest) (λ o more. read (maybe_below o) more)

-- what stands behind a word by a table of words: its first row with this word
abbrev pub by_word : {C : Type 0} → List (List ℕ × (Rest → Option C)) → List ℕ → Rest → Option C
by_word [] w rest = None
by_word (row ∷ rows) w rest = if bytes_eq w row.0 then row.1 rest else by_word rows w rest
