-- What is said of an input, by what its reader answers.
use Rattle.std.specs.Prelude.{◌≡◌, ℕ, Bool, true, false, List, Option, Some, None, ◌⊎◌, string_bytes}
use Rattle.dash_script.specs.declared.refusal.Cause.{Cause}
use Rattle.dash_script.specs.declared.refusal.Parsed.{Parsed}
use Rattle.dash_script.specs.declared.refusal.Parsed.TheVariants as script
use Rattle.value_animator.specs.declared.refusal.ParsedValues.{ParsedValues}
use Rattle.value_animator.specs.declared.refusal.ParsedValues.TheVariants as plan
use Rattle.run_picture.specs.declared.report.ParsedReport.{ParsedReport}
use Rattle.run_picture.specs.declared.report.ParsedReport.TheVariants as report
use Rattle.run_picture.specs.Text as reports
use Rattle.text_help.specs.declared.said.Said.{Said}
use Rattle.text_help.specs.declared.said.Said.TheVariants as said
use Rattle.text_help.specs.Heads.{BeginsWith, script_head, plan_head, report_head}

-- ---- what is promised

abbrev pub is_good : Said → Bool
is_good (said.Good text) = true
is_good (said.Bad line cause text) = false
is_good said.NoMemory = false

abbrev pub is_without : Said → Bool
is_without (said.Good text) = false
is_without (said.Bad line cause text) = false
is_without said.NoMemory = true

-- the line that is said to be bad, and the cause where the reader tells one
abbrev pub said_bad_line : Said → Option (ℕ × Option Cause)
said_bad_line (said.Good text) = None
said_bad_line (said.Bad line cause text) = Some (line, cause)
said_bad_line said.NoMemory = None

-- an input is said to be good only where it is the text of something
abbrev pub GoodOnly : {T : Type 0} → (List ℕ → T → Type 0) → Said → List ℕ → Type 0
GoodOnly {T} IsText s b = is_good s ≡ true → (t : T) × IsText b t

-- and always then, unless memory ran out
abbrev pub GoodAll : {T : Type 0} → (List ℕ → T → Type 0) → Said → List ℕ → Type 0
GoodAll {T} IsText s b = (t : T) → IsText b t → (is_good s ≡ true) ⊎ (is_without s ≡ true)

-- a line is said to be bad only where it is refused, and for that cause
abbrev pub BadOnly : {C : Type 0} → (C → Option Cause) → (List ℕ → ℕ → C → Type 0) → Said → List ℕ → Type 0
BadOnly {C} told IsRefusal s b =
    (line : ℕ) (c : Option Cause) → said_bad_line s ≡ Some (line, c) → (cause : C) × (c ≡ told cause) × IsRefusal b line cause

-- and always then, unless memory ran out
abbrev pub BadAll : {C : Type 0} → (C → Option Cause) → (List ℕ → ℕ → C → Type 0) → Said → List ℕ → Type 0
BadAll {C} told IsRefusal s b =
    (line : ℕ) (cause : C) → IsRefusal b line cause → (said_bad_line s ≡ Some (line, told cause)) ⊎ (is_without s ≡ true)

-- a reader of reports tells no cause
abbrev pub no_cause : Unit {0} → Option Cause
no_cause _ = None

-- the line is the least bad one of a report
abbrev pub IsReportRefusal : List ℕ → ℕ → Unit {0} → Type 0
IsReportRefusal b line _ = reports.IsLeastBadOfReport b line

-- what is said of a bad input begins with its line, and with the cause where one is told
abbrev pub BeginsWithHead : (ℕ → Option Cause → List ℕ) → Said → Type 0
BeginsWithHead head (said.Good text) = Unit {0}
BeginsWithHead head (said.Bad line c text) = BeginsWith (head line c) (string_bytes text)
BeginsWithHead head said.NoMemory = Unit {0}

-- ---- what is said of a reader's answer

-- good of a text that was taken, and of one that was refused its line and cause, which begin what is said; anything where memory ran out
abbrev pub IsSaidOf : {P T C : Type 0} → (T → P) → (ℕ → C → P) → (C → Option Cause) → (ℕ → Option Cause → List ℕ) → Said → P → Type 0
IsSaidOf {P} {T} taken refused told head (said.Good text) p = (t : T) × (p ≡ taken t)
IsSaidOf {P} {T} {C} taken refused told head (said.Bad line c text) p =
    (cause : C) × (c ≡ told cause) × (p ≡ refused line cause) × BeginsWith (head line c) (string_bytes text)
IsSaidOf taken refused told head said.NoMemory p = Unit {0}

abbrev pub IsSaidOfScript : Said → Parsed → Type 0
IsSaidOfScript = IsSaidOf script.Ok script.Bad Some script_head

abbrev pub IsSaidOfPlan : Said → ParsedValues → Type 0
IsSaidOfPlan = IsSaidOf plan.Ok plan.Bad Some plan_head

-- a report's reader tells a line alone
abbrev pub refused_report : ℕ → Unit {0} → ParsedReport
refused_report line _ = report.Bad line

abbrev pub IsSaidOfReport : Said → ParsedReport → Type 0
IsSaidOfReport = IsSaidOf report.Ok refused_report no_cause report_head
