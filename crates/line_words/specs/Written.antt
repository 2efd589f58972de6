-- The words of a line that is written, which carry the widths of their numbers.
use Rattle.std.specs.Prelude.{ℕ, ◌<◌, ◌^◌, Bool, true, false, List, map, codes, Option, Some, None, IfSome}
use Rattle.std.specs.Fmt.{decimal}
use Rattle.line_words.specs.Words.{LineWords}

-- a number, or the mark where there is none
abbrev pub maybe : Option ℕ → List ℕ
maybe None = codes "-"
maybe (Some n) = decimal n

-- one of two words
abbrev pub one_of : List ℕ → List ℕ → Bool → List ℕ
one_of first second true = first
one_of first second false = second

-- a number of 32 bits
abbrev pub IsShort : ℕ → Type 0
IsShort n = n < 2 ^ 32

-- a number of 64 bits
abbrev pub IsLong : ℕ → Type 0
IsLong n = n < 2 ^ 64

-- a word as it is written: a fixed one, or a number of 32 or of 64 bits, which may be absent
pub data WrittenWord : Type 0 where
  Fixed : (word : List ℕ) → WrittenWord
  Short : (number : ℕ) → WrittenWord
  Long : (number : ℕ) → WrittenWord
  MaybeShort : (number : Option ℕ) → WrittenWord
  MaybeLong : (number : Option ℕ) → WrittenWord

-- how it is spelled
abbrev pub spelled : WrittenWord → List ℕ
spelled (Fixed word) = word
spelled (Short n) = decimal n
spelled (Long n) = decimal n
spelled (MaybeShort number) = maybe number
spelled (MaybeLong number) = maybe number

-- the words of a line that is written with these
abbrev pub spelled_words : List WrittenWord → LineWords
spelled_words ws = map spelled ws

-- its number is within its width
abbrev pub FitsWord : WrittenWord → Type 0
FitsWord (Fixed word) = Unit {0}
FitsWord (Short n) = IsShort n
FitsWord (Long n) = IsLong n
FitsWord (MaybeShort number) = IfSome number IsShort
FitsWord (MaybeLong number) = IfSome number IsLong
