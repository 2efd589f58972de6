-- The parser takes each spelling of a command, and finds that command.
use Rattle.std.proofs.Common.{◌≡◌, ◌⊎◌, ◌+◌, ◌-◌, ◌≤◌, ◌<◌, ◌^◌, ℕ, zero, suc, List, [], ◌∷◌, refl, codes, true, Some, length, slice_index, arith, sym, subst, inl, inr, ap, ◌∙◌, Option, Result, Ok}
use Rattle.std.specs.Fmt.{decimal}
use Rattle.std.proofs.lemmas.Fmt.{decimal_is_IsNumeral}
use Rattle.std.proofs.lemmas.Str.Parse.{digit_at, numerals_by_value, parse_gives, tells_digits}
use Rattle.clap.specs.Words.{App, Row, first_of, is_simple, one_of, subcommand_of, takes}
use Rattle.clap.specs.declared.error.ErrorKind.{ErrorKind}
use Rattle.clap.specs.declared.error.ErrorKind.TheVariants.{OutOfMemory}
use Rattle.std.specs.Str.Parse.{AllDigits, ParsesUnsigned, digits_value}
use Rattle.clap.proofs.OnLiterals.{clap_on_literals}
use Rattle.dashboard_cli.specs.CommandLine.{dashboard_app, HasNumber, HasRows, IsCommandFound, name_of, HasFree}
use Rattle.dashboard_cli.specs.Words.{IsInRange, IsListed, IsSpelled}
use Rattle.std.specs.Prelude.{IfNone, IsSomeAnd, None, unwrap_or}
use Rattle.dashboard_cli.specs.declared.words.Subcommand.{Subcommand}
use Rattle.dashboard_cli.specs.declared.words.Subcommand.TheVariants.{Run, RunFree, Text, Migrate, Make, MakeRun, Trace, Check, Animate, Inbox}

-- the parser takes the words, and finds the command in them
pub record IsParsed (words : List (List ℕ)) (Found : Type 0) : Type 0 where
  pub taken : takes dashboard_app words ≡ true
  pub found : Found

abbrev Finds : Subcommand → List (List ℕ) → Type 0
Finds command words = IsParsed words (IsCommandFound command (subcommand_of dashboard_app words))

abbrev Makes : List ℕ → List ℕ → List (List ℕ) → Type 0
Makes number runs words = IsParsed words (IsSomeAnd (subcommand_of dashboard_app words) (λ f. (f.0 ≡ codes "make") × HasNumber number runs f.1))

-- the three ways to write `make` with a number
abbrev MakesAll : List ℕ → Type 0
MakesAll t = Makes t (codes "false") (codes "make" ∷ t ∷ []) × Makes t (codes "true") (codes "make" ∷ t ∷ codes "--run" ∷ [])
    × Makes t (codes "true") (codes "make" ∷ codes "--run" ∷ t ∷ [])

makes_from : (k : ℕ) (ds : List ℕ) → k < 10 → MakesAll ((48 + k) ∷ ds)
unfolding clap_on_literals
makes_from zero ds h =
    (record { taken = refl; found = (refl, (refl, refl)) }, record { taken = refl; found = (refl, (refl, refl)) }, record { taken = refl; found = (refl, (refl, refl)) })
makes_from (suc zero) ds h =
    (record { taken = refl; found = (refl, (refl, refl)) }, record { taken = refl; found = (refl, (refl, refl)) }, record { taken = refl; found = (refl, (refl, refl)) })
makes_from (suc (suc zero)) ds h =
    (record { taken = refl; found = (refl, (refl, refl)) }, record { taken = refl; found = (refl, (refl, refl)) }, record { taken = refl; found = (refl, (refl, refl)) })
makes_from (suc (suc (suc zero))) ds h =
    (record { taken = refl; found = (refl, (refl, refl)) }, record { taken = refl; found = (refl, (refl, refl)) }, record { taken = refl; found = (refl, (refl, refl)) })
makes_from (suc (suc (suc (suc zero)))) ds h =
    (record { taken = refl; found = (refl, (refl, refl)) }, record { taken = refl; found = (refl, (refl, refl)) }, record { taken = refl; found = (refl, (refl, refl)) })
makes_from (suc (suc (suc (suc (suc zero))))) ds h =
    (record { taken = refl; found = (refl, (refl, refl)) }, record { taken = refl; found = (refl, (refl, refl)) }, record { taken = refl; found = (refl, (refl, refl)) })
makes_from (suc (suc (suc (suc (suc (suc zero)))))) ds h =
    (record { taken = refl; found = (refl, (refl, refl)) }, record { taken = refl; found = (refl, (refl, refl)) }, record { taken = refl; found = (refl, (refl, refl)) })
makes_from (suc (suc (suc (suc (suc (suc (suc zero))))))) ds h =
    (record { taken = refl; found = (refl, (refl, refl)) }, record { taken = refl; found = (refl, (refl, refl)) }, record { taken = refl; found = (refl, (refl, refl)) })
makes_from (suc (suc (suc (suc (suc (suc (suc (suc zero)))))))) ds h =
    (record { taken = refl; found = (refl, (refl, refl)) }, record { taken = refl; found = (refl, (refl, refl)) }, record { taken = refl; found = (refl, (refl, refl)) })
makes_from (suc (suc (suc (suc (suc (suc (suc (suc (suc zero))))))))) ds h =
    (record { taken = refl; found = (refl, (refl, refl)) }, record { taken = refl; found = (refl, (refl, refl)) }, record { taken = refl; found = (refl, (refl, refl)) })
makes_from (suc (suc (suc (suc (suc (suc (suc (suc (suc (suc k)))))))))) ds h = absurd (omega arith)

makes_text : (t : List ℕ) → 0 < length t → 48 ≤ slice_index t 0 → slice_index t 0 ≤ 57 → MakesAll t
makes_text [] some low high = absurd (omega arith)
makes_text (d ∷ ds) some low high =
    let same : 48 + (d - 48) ≡ d = omega arith in
    subst (λ (x : ℕ). MakesAll (x ∷ ds)) same (makes_from (d - 48) ds (omega arith))

pub is_simple_app : is_simple dashboard_app ≡ true
unfolding clap_on_literals
is_simple_app = refl

pub finds_run : Finds Run (codes "run" ∷ [])
unfolding clap_on_literals
finds_run = record { taken = refl; found = (refl, refl) }

pub finds_free : Finds RunFree (codes "run" ∷ codes "--free" ∷ [])
unfolding clap_on_literals
finds_free = record { taken = refl; found = (refl, refl) }

pub finds_text : Finds Text (codes "text" ∷ [])
unfolding clap_on_literals
finds_text = record { taken = refl; found = (refl, refl) }

pub finds_migrate : Finds Migrate (codes "text" ∷ codes "--to" ∷ codes "2" ∷ [])
unfolding clap_on_literals
finds_migrate = record { taken = refl; found = (refl, refl) }

pub finds_trace : Finds Trace (codes "trace" ∷ [])
unfolding clap_on_literals
finds_trace = record { taken = refl; found = (refl, tt) }

pub finds_check : Finds Check (codes "check" ∷ [])
unfolding clap_on_literals
finds_check = record { taken = refl; found = (refl, tt) }

pub finds_animate : Finds Animate (codes "animate" ∷ [])
unfolding clap_on_literals
finds_animate = record { taken = refl; found = (refl, tt) }

pub finds_inbox : Finds Inbox (codes "inbox" ∷ [])
unfolding clap_on_literals
finds_inbox = record { taken = refl; found = (refl, tt) }

makes_number : (number : ℕ) → number < 2 ^ 32 → MakesAll (decimal number)
makes_number number small =
    let numeral = (decimal_is_IsNumeral number (omega (arith, small))).0 in
    let first = digit_at (decimal number) 0 numeral.1 numeral.0 in
    makes_text (decimal number) numeral.0 first.0 first.1

-- each spelling of a command is taken, and that command is found
pub finds : (command : Subcommand) (words : List (List ℕ)) → IsInRange command → IsSpelled command words → Finds command words
finds Run words fits is = subst (Finds Run) (sym is) finds_run
finds RunFree words fits is = subst (Finds RunFree) (sym is) finds_free
finds Text words fits is = subst (Finds Text) (sym is) finds_text
finds Migrate words fits is = subst (Finds Migrate) (sym is) finds_migrate
finds Trace words fits is = subst (Finds Trace) (sym is) finds_trace
finds Check words fits is = subst (Finds Check) (sym is) finds_check
finds Animate words fits is = subst (Finds Animate) (sym is) finds_animate
finds Inbox words fits is = subst (Finds Inbox) (sym is) finds_inbox
finds (Make number) words fits is = subst (Finds (Make number)) (sym is) (makes_number number fits).0
finds (MakeRun number) words fits (inl is) = subst (Finds (MakeRun number)) (sym is) (makes_number number fits).1
finds (MakeRun number) words fits (inr is) = subst (Finds (MakeRun number)) (sym is) (makes_number number fits).2

-- ---- what the program reads of the matches

-- the matches of `make` have its number, and its flag tells which of the two it is
pub record IsMake (command : Subcommand) (rows : List Row) : Type 0 where
  pub number : ℕ
  pub small : number < 2 ^ 32
  pub text : first_of (codes "number") rows ≡ Some (decimal number)
  pub flag : ((command ≡ Make number) × (one_of (codes "run") rows ≡ Some (codes "false")))
      ⊎ ((command ≡ MakeRun number) × (one_of (codes "run") rows ≡ Some (codes "true")))

pub is_make : (command : Subcommand) (rows : List Row) → IsInRange command → name_of command ≡ codes "make" → HasRows command rows → IsMake command rows
is_make Run rows fits named has = let bad : ◌≡◌ {A = ℕ} 110 107 = ap (λ (t : List ℕ). slice_index t 2) named in absurd (omega arith)
is_make RunFree rows fits named has = let bad : ◌≡◌ {A = ℕ} 110 107 = ap (λ (t : List ℕ). slice_index t 2) named in absurd (omega arith)
is_make Text rows fits named has = let bad : ◌≡◌ {A = ℕ} 120 107 = ap (λ (t : List ℕ). slice_index t 2) named in absurd (omega arith)
is_make Migrate rows fits named has = let bad : ◌≡◌ {A = ℕ} 120 107 = ap (λ (t : List ℕ). slice_index t 2) named in absurd (omega arith)
is_make Trace rows fits named has = let bad : ◌≡◌ {A = ℕ} 97 107 = ap (λ (t : List ℕ). slice_index t 2) named in absurd (omega arith)
is_make Check rows fits named has = let bad : ◌≡◌ {A = ℕ} 101 107 = ap (λ (t : List ℕ). slice_index t 2) named in absurd (omega arith)
is_make Animate rows fits named has = let bad : ◌≡◌ {A = ℕ} 105 107 = ap (λ (t : List ℕ). slice_index t 2) named in absurd (omega arith)
is_make Inbox rows fits named has = let bad : ◌≡◌ {A = ℕ} 98 107 = ap (λ (t : List ℕ). slice_index t 2) named in absurd (omega arith)
is_make (Make number) rows fits named has = record { number = number; small = fits; text = has.0; flag = inl (refl, has.1) }
is_make (MakeRun number) rows fits named has = record { number = number; small = fits; text = has.0; flag = inr (refl, has.1) }

-- the matches of `text` tell whether it has an edition, and which
pub is_text : (command : Subcommand) (rows : List Row) → name_of command ≡ codes "text" → HasRows command rows
    → ((command ≡ Text) × (first_of (codes "to") rows ≡ None)) ⊎ ((command ≡ Migrate) × (first_of (codes "to") rows ≡ Some (codes "2")))
is_text Run rows named has = let bad : ◌≡◌ {A = ℕ} 110 120 = ap (λ (t : List ℕ). slice_index t 2) named in absurd (omega arith)
is_text RunFree rows named has = let bad : ◌≡◌ {A = ℕ} 110 120 = ap (λ (t : List ℕ). slice_index t 2) named in absurd (omega arith)
is_text Text rows named has = inl (refl, has)
is_text Migrate rows named has = inr (refl, has)
is_text Trace rows named has = let bad : ◌≡◌ {A = ℕ} 97 120 = ap (λ (t : List ℕ). slice_index t 2) named in absurd (omega arith)
is_text Check rows named has = let bad : ◌≡◌ {A = ℕ} 101 120 = ap (λ (t : List ℕ). slice_index t 2) named in absurd (omega arith)
is_text Animate rows named has = let bad : ◌≡◌ {A = ℕ} 105 120 = ap (λ (t : List ℕ). slice_index t 2) named in absurd (omega arith)
is_text Inbox rows named has = let bad : ◌≡◌ {A = ℕ} 98 120 = ap (λ (t : List ℕ). slice_index t 2) named in absurd (omega arith)
is_text (Make number) rows named has = let bad : ◌≡◌ {A = ℕ} 107 120 = ap (λ (t : List ℕ). slice_index t 2) named in absurd (omega arith)
is_text (MakeRun number) rows named has = let bad : ◌≡◌ {A = ℕ} 107 120 = ap (λ (t : List ℕ). slice_index t 2) named in absurd (omega arith)

-- the matches of `run` tell whether it goes by the clock
pub is_run : (command : Subcommand) (rows : List Row) → name_of command ≡ codes "run" → HasRows command rows
    → ((command ≡ Run) × HasFree (codes "false") rows) ⊎ ((command ≡ RunFree) × HasFree (codes "true") rows)
is_run Run rows named has = inl (refl, has)
is_run RunFree rows named has = inr (refl, has)
is_run Text rows named has = let bad : ◌≡◌ {A = ℕ} 120 110 = ap (λ (t : List ℕ). slice_index t 2) named in absurd (omega arith)
is_run Migrate rows named has = let bad : ◌≡◌ {A = ℕ} 120 110 = ap (λ (t : List ℕ). slice_index t 2) named in absurd (omega arith)
is_run Trace rows named has = let bad : ◌≡◌ {A = ℕ} 97 110 = ap (λ (t : List ℕ). slice_index t 2) named in absurd (omega arith)
is_run Check rows named has = let bad : ◌≡◌ {A = ℕ} 101 110 = ap (λ (t : List ℕ). slice_index t 2) named in absurd (omega arith)
is_run Animate rows named has = let bad : ◌≡◌ {A = ℕ} 105 110 = ap (λ (t : List ℕ). slice_index t 2) named in absurd (omega arith)
is_run Inbox rows named has = let bad : ◌≡◌ {A = ℕ} 98 110 = ap (λ (t : List ℕ). slice_index t 2) named in absurd (omega arith)
is_run (Make number) rows named has = let bad : ◌≡◌ {A = ℕ} 107 110 = ap (λ (t : List ℕ). slice_index t 2) named in absurd (omega arith)
is_run (MakeRun number) rows named has = let bad : ◌≡◌ {A = ℕ} 107 110 = ap (λ (t : List ℕ). slice_index t 2) named in absurd (omega arith)

-- the printed number is read as that number
pub parses : {E : Type 0} (n : ℕ) (bs : List ℕ) (r : Result ℕ E) → n < 2 ^ 32 → bs ≡ decimal n → ParsesUnsigned 32 10 bs r → r ≡ Ok n
parses n bs r small is given =
    let numeral = decimal_is_IsNumeral n (omega (arith, small)) in
    let own = numerals_by_value (AllDigits 10) tells_digits in
    let value : digits_value 10 bs ≡ n = ap (digits_value 10) is ∙ numeral.1 in
    parse_gives own 32 bs r given (subst (AllDigits 10) (sym is) numeral.0.1) (subst (λ (t : List ℕ). 0 < length t) (sym is) numeral.0.0)
    (omega (arith, value, small)) ∙ ap Ok value

-- ---- the words that are refused

-- the parser refuses no spelling of a command except when out of memory
pub not_listed : (app : App) (words : List (List ℕ)) (kind : ErrorKind) → app ≡ dashboard_app
    → (takes app words ≡ true → kind ≡ OutOfMemory) → (kind ≡ OutOfMemory → ⊥) → IsListed words → ⊥
not_listed app words kind same passes refused listed =
    refused (passes (ap (λ (a : App). takes a words) same ∙ (finds listed.0 words listed.1.fits listed.1.spelled).taken))

-- where the words spell a command, that command is the one which is read
pub reads_listed : (app : App) (words : List (List ℕ)) (rows : Option (List ℕ × List Row)) (read : Option Subcommand) → app ≡ dashboard_app
    → (is_simple app ≡ true → rows ≡ subcommand_of app words)
    → ((command : Subcommand) → IsInRange command → IsCommandFound command rows → read ≡ Some command)
    → ((command : Subcommand) → read ≡ Some command → IsSpelled command words → ⊥) → IsListed words → ⊥
reads_listed app words rows read same matches found not_spelled listed =
    let command = listed.0 in
    let rows_are = matches (ap is_simple same ∙ is_simple_app) ∙ ap (λ (a : App). subcommand_of a words) same in
    let is_found = subst (IsCommandFound command) (sym rows_are) (finds command words listed.1.fits listed.1.spelled).found in
    not_spelled command (found command listed.1.fits is_found) listed.1.spelled

-- a command that was read, and is not spelled by the words, is the only one that was read
pub other_spelled : (read : Option Subcommand) (one other : Subcommand) (words : List (List ℕ)) → read ≡ Some one → read ≡ Some other
    → (IsSpelled one words → ⊥) → IsSpelled other words → ⊥
other_spelled read one other words is also not_spelled spelled =
    let same : other ≡ one = ap (λ (r : Option Subcommand). unwrap_or r one) (sym also ∙ is) in
    not_spelled (subst (λ (c : Subcommand). IsSpelled c words) same spelled)

pub if_none : {P : Type 0} (found : Option Subcommand) → found ≡ None → P → IfNone found P
if_none {P} found is holds = subst (λ (f : Option Subcommand). IfNone f P) (sym is) holds
