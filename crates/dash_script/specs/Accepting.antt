-- The script of a text, or its least bad line with the first cause.
use Rattle.std.specs.Prelude.{ℕ, Bool, true, false, ◌&&◌, ◌==◌, nat_lt, List, [], ◌∷◌, ◌++◌, length, slice_index, Option, Some, None, if◌then◌else◌}
use Rattle.dash_script.specs.declared.form.Part.{Part}
use Rattle.dash_script.specs.declared.form.Part.TheVariants as part_of
use Rattle.dash_script.specs.declared.form.LineKind.{LineKind}
use Rattle.dash_script.specs.declared.form.LineKind.TheVariants as kind
use Rattle.dash_script.specs.declared.refusal.Cause.{Cause}
use Rattle.dash_script.specs.declared.refusal.Cause.TheVariants as cause
use Rattle.dash_script.specs.declared.script.Command.{Command}
use Rattle.dash_script.specs.declared.script.Command.TheVariants as command
use Rattle.dash_script.specs.declared.script.Line.{Line}
use Rattle.dash_script.specs.declared.script.Block.{Block}
use Rattle.dash_script.specs.declared.script.Script.{Script}
use Rattle.dash_script.specs.declared.statement.Statement.{Statement}
use Rattle.line_words.specs.Refusing.{Language, IsTextOf, IsRefusalOf, form_or}
use Rattle.dash_script.specs.Form.{part, statement_of}
use Rattle.dash_script.specs.Causes.{ScriptSoFar, statement_cause}

-- ---- what each line adds

-- nothing is read yet
abbrev pub empty_draft : ScriptSoFar
empty_draft = record {
  script = record { edition = 0; loopers = 0; threads = 0; handlers = []; gauges = []; period = 0; rules = []; blocks = []; end = 0 };
  last = part_of.Start;
}

-- the command of a command line
abbrev pub command_of : LineKind → List ℕ → Command
command_of kind.Post ns = command.Post (slice_index ns 1) (slice_index ns 2) (slice_index ns 3)
command_of kind.PostAsync ns = command.PostAsync (slice_index ns 1) (slice_index ns 2) (slice_index ns 3)
command_of kind.Front ns = command.Front (slice_index ns 1) (slice_index ns 2)
command_of kind.Callback ns = command.Callback (slice_index ns 1) (slice_index ns 2) (slice_index ns 3)
command_of kind.Set ns = command.Set (slice_index ns 1) (slice_index ns 2)
command_of kind.Remove ns = command.Remove (slice_index ns 1) (slice_index ns 2)
command_of kind.RemoveCallback ns = command.RemoveCallback (slice_index ns 1) (slice_index ns 2)
command_of kind.RemoveAll ns = command.RemoveAll (slice_index ns 1)
command_of kind.Barrier ns = command.Barrier (slice_index ns 1) (slice_index ns 2)
command_of kind.Unbarrier ns = command.Unbarrier (slice_index ns 1)
command_of kind.Quit ns = command.Quit (slice_index ns 1)
command_of kind.QuitSafely ns = command.QuitSafely (slice_index ns 1)
command_of kind.IdleKeep ns = command.Idle (slice_index ns 1) (slice_index ns 2) true
command_of kind.IdleOnce ns = command.Idle (slice_index ns 1) (slice_index ns 2) false
command_of kind.Watch ns = command.Watch (slice_index ns 1) (slice_index ns 2) (slice_index ns 3) (slice_index ns 4)
command_of kind.Event ns = command.Event (slice_index ns 1) (slice_index ns 2) (slice_index ns 3)
command_of kind.Frame ns = command.Frame (slice_index ns 1) (slice_index ns 2) (slice_index ns 3) (slice_index ns 4)
command_of _ ns = command.Unframe (slice_index ns 1) (slice_index ns 2) (slice_index ns 3)

-- a command goes to the last block
abbrev pub with_command : List Block → Line → List Block
with_command [] l = []
with_command (b ∷ []) l = record b { lines = b.lines ++ l ∷ [] } ∷ []
with_command (b ∷ c ∷ bs) l = b ∷ with_command (c ∷ bs) l

-- the script with what one more line holds
abbrev pub added : Script → LineKind → List ℕ → Script
added s kind.Edition1 ns = record s { edition = 1 }
added s kind.Edition2 ns = record s { edition = 2 }
added s kind.Loopers ns = record s { loopers = slice_index ns 0 }
added s kind.Threads ns = record s { threads = slice_index ns 0 }
added s kind.Handler ns = record s { handlers = s.handlers ++ record { looper = slice_index ns 1; asynchronous = false } ∷ [] }
added s kind.AsyncHandler ns = record s { handlers = s.handlers ++ record { looper = slice_index ns 1; asynchronous = true } ∷ [] }
added s kind.Gauge ns = record s { gauges = s.gauges ++ record { handler = slice_index ns 1; step = slice_index ns 2 } ∷ [] }
added s kind.Vsync ns = record s { period = slice_index ns 0 }
added s kind.Rule ns = record s {
  rules = s.rules ++ record {
    handler = slice_index ns 0;
    what = slice_index ns 1;
    times = slice_index ns 2;
    to_handler = slice_index ns 3;
    to_what = slice_index ns 4;
    delay = slice_index ns 5;
  } ∷ [];
}
added s kind.At ns = record s { blocks = s.blocks ++ record { time = slice_index ns 0; lines = [] } ∷ [] }
added s kind.End ns = record s { end = slice_index ns 0 }
added s k ns = record s { blocks = with_command s.blocks (record { thread = slice_index ns 0; command = command_of k ns }) }

-- what the lines so far hold with one more
unfoldable pub with_line : ScriptSoFar → Statement → ScriptSoFar
with_line d st = record { script = added d.script st.kind st.numbers; last = part st.kind }

-- ---- why a line may not come next, and what a text is

-- whether the last line has come
abbrev pub is_end : Part → Bool
is_end part_of.End = true
is_end _ = false

-- the first cause for which what line k says may not come next
abbrev pub line_cause : ℕ → ScriptSoFar → Option Statement → Option Cause
line_cause k d said = if nat_lt 20000 k then Some cause.TooMany else form_or cause.Form (statement_cause d) said

-- why the text may not stop at line k, where a piece without a line feed is left
abbrev pub stop_cause : ℕ → ScriptSoFar → List ℕ → Option Cause
stop_cause k d rest =
    if length rest == 0 && is_end d.last then None
    else Some (if nat_lt 20000 k then cause.TooMany else (if length rest == 0 then cause.Missing else cause.Form))

-- the language of scripts
abbrev pub scripts : Language Statement ScriptSoFar Script Cause
scripts = record { start = empty_draft; line_of = statement_of; next = with_line; cause = line_cause; stop = stop_cause; whole = λ d. d.script }

-- b is a text of this script
abbrev pub IsScriptText : List ℕ → Script → Type 0
IsScriptText = IsTextOf scripts

-- this is the least line of the text, counted from 1, that has a cause, and this is the first cause that it has
abbrev pub IsScriptRefusal : List ℕ → ℕ → Cause → Type 0
IsScriptRefusal = IsRefusalOf scripts
