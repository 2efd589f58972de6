-- Which lines of a script an inbox run doesn't know.
use Rattle.std.specs.Prelude.{ℕ, nat_lt, slice_index, Bool, true, false, List, Option}
use Rattle.std.specs.List.{position_from}
use Rattle.dash_script.specs.declared.form.LineKind.{LineKind}
use Rattle.dash_script.specs.declared.form.LineKind.TheVariants as kind
use Rattle.dash_script.specs.declared.script.Script.{Script}
use Rattle.dash_script.specs.declared.statement.Statement.{Statement}
use Rattle.dash_script.specs.Text.{script_lines}

-- it is a gauge or a reaction, or a command that is no post of a message or a callback, or names more than one looper
abbrev pub is_bad_of : LineKind → List ℕ → Bool
is_bad_of kind.Loopers ns = nat_lt 1 (slice_index ns 0)
is_bad_of kind.Edition1 ns = false
is_bad_of kind.Edition2 ns = false
is_bad_of kind.Threads ns = false
is_bad_of kind.Handler ns = false
is_bad_of kind.AsyncHandler ns = false
is_bad_of kind.Vsync ns = false
is_bad_of kind.At ns = false
is_bad_of kind.Post ns = false
is_bad_of kind.PostAsync ns = false
is_bad_of kind.Front ns = false
is_bad_of kind.Callback ns = false
is_bad_of kind.End ns = false
is_bad_of _ ns = true

abbrev pub is_bad : Statement → Bool
is_bad line = is_bad_of line.kind line.numbers

-- the number of the least such line of the script's text, counted from 1
abbrev pub bad_line : Script → Option ℕ
bad_line s = position_from is_bad 1 (script_lines s)
