-- Words are a spelling of one command at most: they tell which.
use Rattle.std.proofs.Common.{◌≡◌, ◌≤◌, ◌<◌, ◌^◌, ◌==◌, ℕ, Bool, true, false, List, [], ◌∷◌, codes, slice_index, arith, sym, inl, inr, ap, ◌∙◌, if◌then◌else◌}
use Rattle.std.specs.Fmt.{decimal}
use Rattle.std.specs.Str.Parse.{digits_value}
use Rattle.std.proofs.lemmas.Bool.Decides.{nat_tests}
use Rattle.std.proofs.lemmas.Fmt.{decimal_is_IsNumeral}
use Rattle.std.proofs.lemmas.Str.Parse.{digit_at}
use Rattle.dashboard_cli.specs.Words.{IsAsked, IsInRange, IsSpelled}
use Rattle.dashboard_cli.specs.declared.words.Subcommand.{Subcommand}
use Rattle.dashboard_cli.specs.declared.words.Subcommand.TheVariants.{Run, RunFree, Text, Migrate, Make, MakeRun, Trace, Check, Animate, Inbox}

-- the word that is the number, where the first word may be a flag
abbrev number_word : Bool → List ℕ → List ℕ → List ℕ
number_word true first second = second
number_word false first second = first

-- the command of words that begin with `make`
abbrev made : List (List ℕ) → Subcommand
made [] = Run
made (first ∷ []) = Make (digits_value 10 first)
made (first ∷ second ∷ more) = MakeRun (digits_value 10 (number_word (slice_index first 0 == 45) first second))

-- the command of words that begin with `run`
abbrev ran : List (List ℕ) → Subcommand
ran [] = Run
ran (flag ∷ more) = RunFree

-- the command of words that begin with `text`
abbrev printed : List (List ℕ) → Subcommand
printed [] = Text
printed (flag ∷ more) = Migrate

-- the command by the third letter of the first word
abbrev by_letter : ℕ → List (List ℕ) → Subcommand
by_letter letter rest =
    if letter == 110 then ran rest else if letter == 120 then printed rest else if letter == 97 then Trace else if letter == 101 then Check
    else if letter == 105 then Animate else if letter == 98 then Inbox else made rest

abbrev command_of : List (List ℕ) → Subcommand
command_of [] = Run
command_of (word ∷ rest) = by_letter (slice_index word 2) rest

no_dash : (letter : ℕ) → 48 ≤ letter → (letter == 45) ≡ false
no_dash letter low = grind (arith, nat_tests)

-- a printed number is no flag
no_flag : (n : ℕ) → n < 2 ^ 32 → (slice_index (decimal n) 0 == 45) ≡ false
no_flag n small =
    let numeral = (decimal_is_IsNumeral n (omega (arith, small))).0 in
    no_dash (slice_index (decimal n) 0) (digit_at (decimal n) 0 numeral.1 numeral.0).0

-- a printed number has its value
value : (n : ℕ) → n < 2 ^ 32 → digits_value 10 (decimal n) ≡ n
value n small = (decimal_is_IsNumeral n (omega (arith, small))).1

-- a spelling tells its command
told : (command : Subcommand) (words : List (List ℕ)) → IsInRange command → IsSpelled command words → command_of words ≡ command
told Run words fits is = ap command_of is
told RunFree words fits is = ap command_of is
told Text words fits is = ap command_of is
told Migrate words fits is = ap command_of is
told Trace words fits is = ap command_of is
told Check words fits is = ap command_of is
told Animate words fits is = ap command_of is
told Inbox words fits is = ap command_of is
told (Make n) words fits is = ap command_of is ∙ ap Make (value n fits)
told (MakeRun n) words fits (inl is) =
    ap command_of is ∙ ap (λ (flag : Bool). MakeRun (digits_value 10 (number_word flag (decimal n) (codes "--run")))) (no_flag n fits) ∙ ap MakeRun (value n fits)
told (MakeRun n) words fits (inr is) = ap command_of is ∙ ap MakeRun (value n fits)

pub one_command : (a b : Subcommand) (words : List (List ℕ)) → IsAsked words a → IsAsked words b → a ≡ b
one_command a b words asked also = sym (told a words asked.fits asked.spelled) ∙ told b words also.fits also.spelled
