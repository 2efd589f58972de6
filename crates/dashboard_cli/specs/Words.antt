-- The commands: the words that each is written with, what each reads, and what it makes of that.
use Rattle.std.specs.Prelude.{◌≡◌, ◌⊎◌, ◌^◌, ◌<◌, ℕ, List, [], ◌∷◌, codes, map, String, string_bytes, Bool, true}
use Rattle.std.specs.declared.alloc.Global.{Global}
use Rattle.std.specs.Fmt.{decimal}
use Rattle.dash_script.specs.Accepting.{IsScriptText}
use Rattle.run_model.specs.Text.{report_text}
use Rattle.run_model.specs.Run.{IsStaged}
use Rattle.run_model.specs.ByClock.{IsStagedByClock}
use Rattle.dashboard_cli.specs.Works.{script_inputs, Input, Work, Writes, only_report}
use Rattle.dashboard_cli.specs.OtherWorks.{inbox_scripts, plan_inputs, trace_inputs, no_input, IsGenerated, Prints, Migrates, Sums, WritesHistories, Checks}
use Rattle.dashboard_cli.specs.OtherWorks.{Animates}
use Rattle.dashboard_cli.specs.OtherWorks.{RunsInbox}
use Rattle.dashboard_cli.specs.declared.words.Subcommand.{Subcommand}
use Rattle.dashboard_cli.specs.declared.making.Returned.{Returned}
use Rattle.dashboard_cli.specs.declared.words.Subcommand.TheVariants as command

-- the words as texts
abbrev pub texts : List (String Global) → List (List ℕ)
texts = map string_bytes

-- the words are a spelling of the command
abbrev pub IsSpelled : Subcommand → List (List ℕ) → Type 0
IsSpelled command.Run words = words ≡ codes "run" ∷ []
IsSpelled command.RunFree words = words ≡ codes "run" ∷ codes "--free" ∷ []
IsSpelled command.Text words = words ≡ codes "text" ∷ []
IsSpelled command.Migrate words = words ≡ codes "text" ∷ codes "--to" ∷ codes "2" ∷ []
IsSpelled command.Trace words = words ≡ codes "trace" ∷ []
IsSpelled command.Check words = words ≡ codes "check" ∷ []
IsSpelled command.Animate words = words ≡ codes "animate" ∷ []
IsSpelled command.Inbox words = words ≡ codes "inbox" ∷ []
IsSpelled (command.Make number) words = words ≡ codes "make" ∷ decimal number ∷ []
IsSpelled (command.MakeRun number) words = (words ≡ codes "make" ∷ decimal number ∷ codes "--run" ∷ [])
    ⊎ (words ≡ codes "make" ∷ codes "--run" ∷ decimal number ∷ [])

-- the number of the command is a u32; the words are this command, and some command
abbrev pub IsInRange : Subcommand → Type 0
IsInRange (command.Make number) = number < 2 ^ 32
IsInRange (command.MakeRun number) = number < 2 ^ 32
IsInRange command = Unit {0}

pub record IsAsked (words : List (List ℕ)) (command : Subcommand) : Type 0 where
  pub fits : IsInRange command
  pub spelled : IsSpelled command words

abbrev pub IsListed : List (List ℕ) → Type 0
IsListed words = (command : Subcommand) × IsAsked words command

-- what each command reads: a script, but for these
abbrev pub reads_of : Subcommand → Input
reads_of (command.Make number) = no_input
reads_of (command.MakeRun number) = no_input
reads_of command.Check = trace_inputs
reads_of command.Animate = plan_inputs
reads_of command.Inbox = inbox_scripts
reads_of _ = script_inputs

-- what each command makes of it, by the numbers that the clock shows
abbrev pub makes_by : (ℕ → Bool) → Subcommand → List ℕ → List ℕ → Returned → Type 0
makes_by shows command.Run = Writes IsScriptText IsStaged report_text only_report
makes_by shows command.RunFree = Writes IsScriptText (IsStagedByClock shows) report_text only_report
makes_by shows command.Text = Prints IsScriptText (λ script. script)
makes_by shows command.Migrate = Migrates
makes_by shows (command.Make number) = Prints (IsGenerated number) (λ script. script)
makes_by shows (command.MakeRun number) = Sums number
makes_by shows command.Trace = WritesHistories
makes_by shows command.Check = Checks
makes_by shows command.Animate = Animates
makes_by shows command.Inbox = RunsInbox

-- what this command does; and one that reads no clock
abbrev pub work_by : (ℕ → Bool) → Subcommand → Work
work_by shows c = record { reads = reads_of c; Makes = makes_by shows c }

abbrev pub work : Subcommand → Work
work c = work_by (λ reading. true) c
