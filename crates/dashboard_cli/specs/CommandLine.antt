-- The command line as the parser of command lines sees it, and what it finds of each command.
use Rattle.std.specs.Prelude.{◌≡◌, ℕ, List, Option, Some, None, codes, true, IsSomeAnd}
use Rattle.std.specs.Fmt.{decimal}
use Rattle.clap.specs.Words.{App, Row, Rule, first_of, new_app, new_rule, one_of, with_rule, with_subcommand}
use Rattle.clap.specs.declared.builder.ArgAction.TheVariants.{SetTrue}
use Rattle.dashboard_cli.specs.declared.words.Subcommand.{Subcommand}
use Rattle.dashboard_cli.specs.declared.words.Subcommand.TheVariants.{Run, RunFree, Text, Migrate, Make, MakeRun, Trace, Check, Animate, Inbox}

-- a flag without a value
abbrev pub flag_rule : List ℕ → Rule
flag_rule name = record (new_rule name) { long = Some name; action = Some SetTrue }

abbrev pub run_app : App
run_app = with_rule (new_app (codes "run")) (flag_rule (codes "free"))

-- an option with a value
abbrev pub option_rule : List ℕ → Rule
option_rule name = record (new_rule name) { long = Some name }

abbrev pub text_app : App
text_app = with_rule (new_app (codes "text")) (option_rule (codes "to"))

abbrev pub trace_app : App
trace_app = new_app (codes "trace")

abbrev pub check_app : App
check_app = new_app (codes "check")

abbrev pub animate_app : App
animate_app = new_app (codes "animate")

abbrev pub inbox_app : App
inbox_app = new_app (codes "inbox")

abbrev pub make_app : App
make_app = with_rule (with_rule (new_app (codes "make")) (new_rule (codes "number"))) (flag_rule (codes "run"))

-- the words begin with the command, and there is no help
abbrev pub without_help : App → App
without_help app = record app {
  top = record app.top { no_binary_name = true; disable_help_flag = true; disable_help_subcommand = true };
}

-- the line with one subcommand more
abbrev pub and_one : App → App → App
and_one app one = with_subcommand app one.top

abbrev pub dashboard_app : App
dashboard_app =
    and_one (and_one (and_one (and_one (and_one (and_one (and_one (without_help (new_app (codes "dashboard")))
    run_app) text_app) make_app) trace_app) check_app) animate_app) inbox_app

-- the first word of a command
abbrev pub name_of : Subcommand → List ℕ
name_of Run = codes "run"
name_of RunFree = codes "run"
name_of Text = codes "text"
name_of Migrate = codes "text"
name_of (Make number) = codes "make"
name_of (MakeRun number) = codes "make"
name_of Trace = codes "trace"
name_of Check = codes "check"
name_of Animate = codes "animate"
name_of Inbox = codes "inbox"

-- the matches give this number, and this value of the flag
abbrev pub HasNumber : List ℕ → List ℕ → List Row → Type 0
HasNumber number runs rows = (first_of (codes "number") rows ≡ Some number) × (one_of (codes "run") rows ≡ Some runs)

-- the matches give this value of the flag of a run
abbrev pub HasFree : List ℕ → List Row → Type 0
HasFree free rows = one_of (codes "free") rows ≡ Some free

-- the matches that stand for a command
abbrev pub HasRows : Subcommand → List Row → Type 0
HasRows Run rows = HasFree (codes "false") rows
HasRows RunFree rows = HasFree (codes "true") rows
HasRows Text rows = first_of (codes "to") rows ≡ None
HasRows Migrate rows = first_of (codes "to") rows ≡ Some (codes "2")
HasRows (Make number) rows = HasNumber (decimal number) (codes "false") rows
HasRows (MakeRun number) rows = HasNumber (decimal number) (codes "true") rows
HasRows command rows = Unit {0}

-- the parser found the command: its subcommand, with its matches
abbrev pub IsCommandFound : Subcommand → Option (List ℕ × List Row) → Type 0
IsCommandFound command found = IsSomeAnd found (λ f. (f.0 ≡ name_of command) × HasRows command f.1)
