-- The words of a line that is written are read again, and bytes with these words are the line.
use Rattle.std.proofs.Common.{◌≡◌, ◌<◌, ◌^◌, ℕ, Bool, true, false, List, [], ◌∷◌, ◌++◌, Option, Some, None, refl, sym, ap, ◌∙◌, arith, append_assoc}
use Rattle.std.specs.Prelude.{IfSome}
use Rattle.std.specs.List.{join_with_byte, AllByRecursion}
use Rattle.std.specs.Fmt.{decimal}
use Rattle.std.proofs.lemmas.List.{map-append}
use Rattle.std.proofs.lemmas.List.Splits.{join_with_byte-slice_split}
use Rattle.std.proofs.lemmas.Fmt.{digits_decimal}
use Rattle.line_words.specs.Words.{words}
use Rattle.line_words.specs.Written.{maybe, one_of, IsShort, IsLong, WrittenWord, FitsWord, spelled, spelled_words}
use Rattle.line_words.specs.Taking.{Rest}
use Rattle.line_words.proofs.Spelling.{own}
use Rattle.line_words.proofs.Joining.{is_free, digits_free, AllFree, join_free, words_joined}

-- neither a space nor a line feed stands in the word
abbrev pub IsWord : List ℕ → Type 0
IsWord w = (is_free 32 w ≡ true) × (is_free 10 w ≡ true)

abbrev pub AreWords : List (List ℕ) → Type 0
AreWords [] = Unit {0}
AreWords (w ∷ ws) = IsWord w × AreWords ws

pub decimal_word : (n : ℕ) → n < 2 ^ 64 → IsWord (decimal n)
decimal_word n fit =
    (digits_free 32 (decimal n) (omega arith) (digits_decimal own n fit), digits_free 10 (decimal n) (omega arith) (digits_decimal own n fit))

free_spaces : (ws : List (List ℕ)) → AreWords ws → AllFree 32 ws
free_spaces [] h = tt
free_spaces (w ∷ ws) h = (h.0.0, free_spaces ws h.1)

free_feeds : (ws : List (List ℕ)) → AreWords ws → AllFree 10 ws
free_feeds [] h = tt
free_feeds (w ∷ ws) h = (h.0.1, free_feeds ws h.1)

-- words that were joined are parted again
pub words_again : (w : List ℕ) (ws : List (List ℕ)) → AreWords (w ∷ ws) → words (join_with_byte 32 (w ∷ ws)) ≡ w ∷ ws
words_again w ws h = words_joined w ws (free_spaces (w ∷ ws) h)

-- and no line feed stands among their bytes
pub no_feed_within : (ws : List (List ℕ)) → AreWords ws → is_free 10 (join_with_byte 32 ws) ≡ true
no_feed_within ws h = join_free 10 ws refl (free_feeds ws h)

-- bytes with these words are the words joined
pub words_taken : (bytes : List ℕ) (ws : List (List ℕ)) → words bytes ≡ ws → bytes ≡ join_with_byte 32 ws
words_taken bytes ws e = sym (join_with_byte-slice_split 32 bytes) ∙ ap (join_with_byte 32) e

pub words_append : (xs ys : List (List ℕ)) → AreWords xs → AreWords ys → AreWords (xs ++ ys)
words_append [] ys f g = g
words_append (x ∷ xs) ys f g = (f.0, words_append xs ys f.1 g)

pub long_short : (n : ℕ) → IsShort n → IsLong n
long_short n fit = omega (arith, fit)

pub short_word : (n : ℕ) → IsShort n → IsWord (decimal n)
short_word n fit = decimal_word n (long_short n fit)

pub maybe_word : (o : Option ℕ) → IfSome o IsLong → IsWord (maybe o)
maybe_word None fit = (refl, refl)
maybe_word (Some n) fit = decimal_word n fit

pub maybe_short_word : (o : Option ℕ) → IfSome o IsShort → IsWord (maybe o)
maybe_short_word None fit = (refl, refl)
maybe_short_word (Some n) fit = short_word n fit

pub one_word : (first second : List ℕ) (b : Bool) → IsWord first → IsWord second → IsWord (one_of first second b)
one_word first second true f s = f
one_word first second false f s = s

-- the words of two lists are those of the one, and behind them those of the other
pub spelled_on : (xs ys : List WrittenWord) (rest : Rest) → spelled_words (xs ++ ys) ++ rest ≡ spelled_words xs ++ (spelled_words ys ++ rest)
spelled_on xs ys rest = ap (λ v. v ++ rest) (map-append spelled xs ys) ∙ append_assoc (spelled_words xs) (spelled_words ys) rest

pub fit_parted : (xs ys : List WrittenWord) → AllByRecursion FitsWord (xs ++ ys) → AllByRecursion FitsWord xs × AllByRecursion FitsWord ys
fit_parted [] ys fit = (tt, fit)
fit_parted (x ∷ xs) ys fit = let rest = fit_parted xs ys fit.1 in ((fit.0, rest.0), rest.1)
