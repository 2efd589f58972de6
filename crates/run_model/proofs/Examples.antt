-- Short words for scripts, histories and reports that are written out.
use Rattle.std.proofs.Common.{ℕ, Bool, true, false, List, [], ◌∷◌, ◌++◌, ◌+◌, Option, Some, None}
use Rattle.loop_model.specs.declared.post.Post.{Post as PostData}
use Rattle.loop_model.specs.declared.call.Call.{Call}
use Rattle.loop_model.specs.declared.call.Call.TheVariants.{Advance, Halt}
use Rattle.loop_model.specs.declared.reply.Reply.{Reply}
use Rattle.loop_model.specs.declared.reply.Reply.TheVariants.{Advanced, Halted}
use Rattle.loop_model.specs.declared.entry.Entry.{Entry}
use Rattle.frame_phases.specs.declared.entry.FrameRecord.{FrameRecord}
use Rattle.frame_phases.specs.declared.entry.FrameEntry.{FrameEntry}
use Rattle.dash_script.specs.declared.script.Command.{Command}
use Rattle.dash_script.specs.declared.script.HandlerLine.{HandlerLine}
use Rattle.dash_script.specs.declared.script.Line.{Line}
use Rattle.dash_script.specs.declared.script.Block.{Block}
use Rattle.dash_script.specs.declared.script.Script.{Script}
use Rattle.loop_model.specs.declared.journal.Act.{Act}
use Rattle.loop_model.specs.declared.journal.Journal.{Journal}
use Rattle.loop_model.specs.declared.record.QueueRecord.{QueueRecord}
use Rattle.loop_model.specs.Base.{empty_base}
use Rattle.frame_phases.specs.declared.entry.Callback.{Callback}
use Rattle.std.specs.List.{flat_map}

abbrev pub entry : ℕ → ℕ → Call → Reply → Entry
entry sender seq c r = record { sender = sender; seq = seq; call = c; reply = r }

-- what this controller makes on main, where nothing else comes: it moves the time to the end, and halts there
abbrev pub halted_at : ℕ → ℕ → List Entry
halted_at controller end = entry controller 0 (Advance end) Advanced ∷ entry controller 1 (Halt end) Halted ∷ []

-- a message of a handler with a number
abbrev pub message : ℕ → ℕ → ℕ → Option ℕ → PostData
message handler what when slot =
    record { handler = handler; what = what; arg = 0; obj = None; callback = None; when = when; asynchronous = false; slot = slot }

-- a message of a handler with a callback
abbrev pub callback_message : ℕ → ℕ → ℕ → Option ℕ → PostData
callback_message handler id when slot = record (message handler 0 when slot) { callback = Some id }

-- the message that starts a frame
abbrev pub frame_message : ℕ → ℕ → Option ℕ → PostData
frame_message looper when slot = record (message (64 + looper) 0 when slot) { asynchronous = true }

-- a frame callback without a token
abbrev pub callback : ℕ → ℕ → ℕ → ℕ → Callback
callback number phase due id = record { number = number; phase = phase; due = due; id = id; token = None }

-- a text of these lines
abbrev pub page : List (List ℕ) → List ℕ
page ls = flat_map (λ l. l ++ 10 ∷ []) ls

abbrev pub handler_on : ℕ → HandlerLine
handler_on looper = record { looper = looper; asynchronous = false }

abbrev pub block : ℕ → List Line → Block
block time lines = record { time = time; lines = lines }

-- thread 0 does this
abbrev pub by_0 : Command → Line
by_0 command = record { thread = 0; command = command }

-- a thread does this
abbrev pub by : ℕ → Command → Line
by thread command = record { thread = thread; command = command }

-- a script with one handler on each looper, and no gauges or rules
abbrev pub plain_script : ℕ → ℕ → List HandlerLine → List Block → ℕ → Script
plain_script loopers threads handlers blocks end =
    record { edition = 1; loopers = loopers; threads = threads; handlers = handlers; gauges = []; period = 16666667; rules = []; blocks = blocks; end = end }

-- the queue of a looper in lockstep
abbrev pub queue : ℕ → Bool → ℕ → List Entry → QueueRecord
queue looper main senders entries = record { looper = looper; main = main; lockstep = true; senders = senders; segments = record { base = empty_base senders; entries = entries } ∷ [] }

abbrev pub journal : ℕ → List Act → Journal
journal looper acts = record { looper = looper; acts = acts }

abbrev pub frames : ℕ → List FrameEntry → FrameRecord
frames looper entries = record { looper = looper; interval = 16666667; phases = 4; entries = entries }
