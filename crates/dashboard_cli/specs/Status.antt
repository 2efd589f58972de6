-- The table of the statuses: the code that the process ends with, and the text on standard error.
use Rattle.std.specs.Prelude.{ℕ, List, [], ◌++◌, codes}
use Rattle.std.specs.Fmt.{decimal}
use Rattle.dash_script.specs.declared.refusal.Cause.{Cause}
use Rattle.dash_script.specs.declared.refusal.Cause.TheVariants.{Form, Range, Unknown, Order, TooMany, Missing}
use Rattle.dashboard_cli.specs.declared.status.LineCause.{LineCause}
use Rattle.dashboard_cli.specs.declared.status.LineCause.TheVariants.{Text, Inbox}
use Rattle.dashboard_cli.specs.declared.status.Status.{Status}
use Rattle.dashboard_cli.specs.declared.status.Status.TheVariants.{Ok, Usage, Script, ReadFault, WriteFault, NoMemory, TooLong, Trace}

-- what the process ends with
abbrev pub code_of : Status → ℕ
code_of Ok = 0
code_of Usage = 2
code_of (Script line cause) = 3
code_of ReadFault = 4
code_of WriteFault = 5
code_of NoMemory = 6
code_of TooLong = 7
code_of (Trace line) = 8

-- the word for what is wrong with a line of a text
abbrev pub text_word : Cause → List ℕ
text_word Form = codes "form"
text_word Range = codes "range"
text_word Unknown = codes "unknown"
text_word Order = codes "order"
text_word TooMany = codes "toomany"
text_word Missing = codes "missing"

-- the word for why a line is refused
abbrev pub cause_word : LineCause → List ℕ
cause_word (Text cause) = text_word cause
cause_word Inbox = codes "inbox"

-- what standard error gets, without its line feed
abbrev pub status_line : Status → List ℕ
status_line Ok = []
status_line Usage = codes "dashboard: usage"
status_line (Script line cause) = codes "dashboard: script line " ++ decimal line ++ codes ": " ++ cause_word cause
status_line ReadFault = codes "dashboard: read fault"
status_line WriteFault = codes "dashboard: write fault"
status_line NoMemory = codes "dashboard: no memory"
status_line TooLong = codes "dashboard: too long"
status_line (Trace line) = codes "dashboard: trace line " ++ decimal line
