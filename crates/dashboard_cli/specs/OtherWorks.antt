-- What the commands that don't just run a script read, refuse, make and return.
use Rattle.std.specs.Prelude.{◌≡◌, ℕ, List, Some, None}
use Rattle.line_words.specs.LeastBad.{IsLeastBad}
use Rattle.frame_phases.specs.declared.entry.FrameRecord.{FrameRecord}
use Rattle.dash_script.specs.declared.script.Script.{Script as ScriptData}
use Rattle.dash_script.specs.Generated.{generated}
use Rattle.dash_script.specs.Accepting.{IsScriptRefusal, IsScriptText}
use Rattle.dash_script.specs.Text.{script_text}
use Rattle.dash_script.specs.Editions.{up}
use Rattle.trace_check.specs.Text.{IsLeastBadOfTrace, IsTraceText, trace_text, trace_of}
use Rattle.value_animator.specs.declared.plan.Values.{Values}
use Rattle.value_animator.specs.Reading.{IsPlanRefusal, IsPlanText}
use Rattle.value_animator.specs.Run.{IsRunOf}
use Rattle.run_model.specs.declared.report.Report.{Report}
use Rattle.run_model.specs.Summary.{summary}
use Rattle.run_model.specs.Run.{IsStaged}
use Rattle.inbox_queue.specs.Bad.{bad_line}
use Rattle.inbox_queue.specs.declared.run.InboxReport.{InboxReport}
use Rattle.inbox_queue.specs.InboxRun.{IsInboxRun}
use Rattle.dashboard_cli.specs.Works.{limit, Input, Says, Writes, nothing_returned, only_report}
use Rattle.dashboard_cli.specs.declared.making.Returned.{Returned}
use Rattle.dashboard_cli.specs.declared.status.LineCause.TheVariants as cause
use Rattle.dashboard_cli.specs.declared.status.Status.{Status}
use Rattle.dashboard_cli.specs.declared.status.Status.TheVariants.{Script, Trace}
use Rattle.dashboard_cli.specs.InboxText.{inbox_text}
use Rattle.dashboard_cli.specs.Verdicts.{verdict_text, IsVerdict}

-- the most bytes that a trace may have
abbrev pub trace_limit : ℕ
trace_limit = 67108864

-- the text of a script, each line of which a run through an inbox knows
abbrev pub IsInboxText : List ℕ → ScriptData → Type 0
IsInboxText input script = IsScriptText input script × (bad_line script ≡ None)

-- the status names the least bad line of what should be a script; or of a script the least line that a run through an inbox doesn't know
abbrev pub RefusesInbox : List ℕ → Status → Type 0
RefusesInbox input (Script line cause.Inbox) = (script : ScriptData) × IsScriptText input script × (bad_line script ≡ Some line)
RefusesInbox input (Script line (cause.Text why)) = IsScriptRefusal input line why
RefusesInbox input status = ⊥

-- the status names the least bad line of what should be a plan of values, and its first cause
abbrev pub RefusesPlan : List ℕ → Status → Type 0
RefusesPlan input (Script line (cause.Text why)) = IsPlanRefusal input line why × IsLeastBad IsPlanText input line
RefusesPlan input status = ⊥

-- the status names the least bad line of what should be a trace
abbrev pub RefusesTrace : List ℕ → Status → Type 0
RefusesTrace input (Trace line) = IsLeastBadOfTrace input line
RefusesTrace input status = ⊥

-- scripts for a run through an inbox, plans, traces, or nothing
abbrev pub inbox_scripts : Input
inbox_scripts = record { most = Some limit; Takes = Says IsInboxText; Refuses = RefusesInbox }

abbrev pub plan_inputs : Input
plan_inputs = record { most = Some limit; Takes = Says IsPlanText; Refuses = RefusesPlan }

abbrev pub trace_inputs : Input
trace_inputs = record { most = Some trace_limit; Takes = Says IsTraceText; Refuses = RefusesTrace }

abbrev pub no_input : Input
no_input = record { most = None; Takes = λ input. Unit {0}; Refuses = λ input status. ⊥ }

-- the script that is read is brought on by this step, and written
abbrev pub Prints : (List ℕ → ScriptData → Type 0) → (ScriptData → ScriptData) → List ℕ → List ℕ → Returned → Type 0
Prints Reads step = Writes Reads (λ read came. came ≡ step read) script_text (λ came. nothing_returned)

-- the script is the generator's of this number, whatever the input
abbrev pub IsGenerated : ℕ → List ℕ → ScriptData → Type 0
IsGenerated number input script = script ≡ generated number

-- the text of the histories of a report's queues
abbrev pub histories_text : Report → List ℕ
histories_text report = trace_text (trace_of report.queues)

-- the text and the frames are those of a run of these values
abbrev pub RunsValues : Values → List ℕ × FrameRecord → Type 0
RunsValues values made = IsRunOf values made.0 made.1

-- what is returned beside a text: frames, or what came of an inbox
abbrev pub only_frames : FrameRecord → Returned
only_frames frames = record { report = None; frames = Some frames; inbox = None }

abbrev pub only_inbox : InboxReport → Returned
only_inbox report = record { report = None; frames = None; inbox = Some report }

-- a script is read and written as one of edition 2; the generator's script of this number is run, and the summary is written; a script is run, and the
-- histories of its queues are written; a trace is checked; a plan of values is run over frames; a script is run through an inbox
abbrev pub Migrates : List ℕ → List ℕ → Returned → Type 0
Migrates = Prints IsScriptText up

abbrev pub Sums : ℕ → List ℕ → List ℕ → Returned → Type 0
Sums number = Writes (IsGenerated number) IsStaged (summary number) only_report

abbrev pub WritesHistories : List ℕ → List ℕ → Returned → Type 0
WritesHistories = Writes IsScriptText IsStaged histories_text only_report

abbrev pub Checks : List ℕ → List ℕ → Returned → Type 0
Checks = Writes IsTraceText (λ trace. IsVerdict trace.queues) verdict_text (λ verdict. nothing_returned)

abbrev pub Animates : List ℕ → List ℕ → Returned → Type 0
Animates = Writes IsPlanText RunsValues (λ made. made.0) (λ made. only_frames made.1)

abbrev pub RunsInbox : List ℕ → List ℕ → Returned → Type 0
RunsInbox = Writes IsInboxText IsInboxRun inbox_text only_inbox
