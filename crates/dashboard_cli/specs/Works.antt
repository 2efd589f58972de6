-- What a command reads: how many bytes, which inputs it takes, and how it refuses another; and what it makes of an input and returns beside it.
use Rattle.std.specs.Prelude.{◌≡◌, ℕ, List, Option, Some, None, ◌≤◌, length}
use Rattle.std.specs.Io.KnownBytes.{Consumes, IsAtEnd}
use Rattle.dash_script.specs.Accepting.{IsScriptRefusal, IsScriptText}
use Rattle.run_model.specs.declared.report.Report.{Report}
use Rattle.dashboard_cli.specs.declared.making.Returned.{Returned}
use Rattle.dashboard_cli.specs.declared.status.LineCause.TheVariants as cause
use Rattle.dashboard_cli.specs.declared.status.Status.{Status}
use Rattle.dashboard_cli.specs.declared.status.Status.TheVariants.{Script}

-- the bytes that a source has left, or that a sink holds, where it tells them; and this input was read to its end, and it is no longer than the limit
abbrev pub ToldBytes : Type 0
ToldBytes = Option (List ℕ)

pub record ReadsWhole (most : ℕ) (before after : ToldBytes) (input : List ℕ) : Type 0 where
  pub consumed : Consumes before after input
  pub ended : IsAtEnd after
  pub fits : length input ≤ most

-- what a command reads
pub record Input : Type 1 where
  -- the most bytes, or None where it reads nothing
  pub most : Option ℕ
  -- the inputs that it takes
  pub Takes : List ℕ → Type 0
  -- the status with which it refuses an input
  pub Refuses : List ℕ → Status → Type 0

-- the input is the text of something
abbrev pub Says : {X : Type 0} → (List ℕ → X → Type 0) → List ℕ → Type 0
Says {X} Text input = (x : X) × Text input x

-- a script: the status names the least bad line of what should be one, and its first cause; a script or a plan may have so many bytes
abbrev pub limit : ℕ
limit = 1048576

abbrev pub RefusesScript : List ℕ → Status → Type 0
RefusesScript input (Script line (cause.Text why)) = IsScriptRefusal input line why
RefusesScript input status = ⊥

abbrev pub script_inputs : Input
script_inputs = record { most = Some limit; Takes = Says IsScriptText; Refuses = RefusesScript }

-- what a command does
pub record Work : Type 1 where
  -- what it reads
  pub reads : Input
  -- the text that it makes of an input, and what is returned beside it
  pub Makes : List ℕ → List ℕ → Returned → Type 0

-- the input is read as one thing, another comes of that, and it is printed and returned
pub record Writes {X R : Type 0} (Reads : List ℕ → X → Type 0) (Comes : X → R → Type 0) (printed : R → List ℕ) (kept : R → Returned)
    (input out : List ℕ) (given : Returned) : Type 0 where
  pub read_as : X
  pub came : R
  pub read : Reads input read_as
  pub comes : Comes read_as came
  pub text_is : out ≡ printed came
  pub given_is : given ≡ kept came

-- what is returned beside a text: nothing, or a report
abbrev pub nothing_returned : Returned
nothing_returned = record { report = None; frames = None; inbox = None }

abbrev pub only_report : Report → Returned
only_report report = record { report = Some report; frames = None; inbox = None }
