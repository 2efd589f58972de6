-- The first line of what is said of a refused input.
use Rattle.std.specs.Prelude.{◌≡◌, ℕ, List, [], ◌∷◌, ◌++◌, codes, Option, Some, None}
use Rattle.std.specs.Fmt.{decimal}
use Rattle.dash_script.specs.declared.refusal.Cause.{Cause}
use Rattle.dash_script.specs.declared.refusal.Cause.TheVariants.{Form, Range, Unknown, Order, TooMany, Missing}

-- the word for a cause
abbrev pub cause_name : Cause → List ℕ
cause_name Form = codes "form"
cause_name Range = codes "range"
cause_name Unknown = codes "unknown"
cause_name Order = codes "order"
cause_name TooMany = codes "toomany"
cause_name Missing = codes "missing"

-- a cause behind a line's number, where one is told
abbrev pub behind_line : Option Cause → List ℕ
behind_line None = 10 ∷ []
behind_line (Some c) = codes ": " ++ cause_name c ++ 10 ∷ []

-- the line and the cause, as the program that reads the input tells them
abbrev pub script_head : ℕ → Option Cause → List ℕ
script_head line c = codes "script line " ++ decimal line ++ behind_line c

abbrev pub plan_head : ℕ → Option Cause → List ℕ
plan_head line c = codes "plan line " ++ decimal line ++ behind_line c

abbrev pub report_head : ℕ → Option Cause → List ℕ
report_head line c = codes "report line " ++ decimal line ++ behind_line c

abbrev pub trace_head : ℕ → List ℕ
trace_head line = codes "trace line " ++ decimal line ++ 10 ∷ []

-- the text begins so
abbrev pub BeginsWith : List ℕ → List ℕ → Type 0
BeginsWith head text = (more : List ℕ) × (text ≡ head ++ more)
