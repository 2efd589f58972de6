-- What an entry ends, told as one of five ways.
use Rattle.std.specs.Prelude.{if◌then◌else◌}
use Rattle.loop_model.specs.declared.call.Call.{Call}
use Rattle.loop_model.specs.declared.call.Call.TheVariants.{Remove, Quit, Next}
use Rattle.loop_model.specs.declared.reply.Reply.{Reply}
use Rattle.loop_model.specs.declared.reply.Reply.TheVariants.{Dispatched, Disposed}
use Rattle.loop_model.specs.Entries.{is_quit_done}
use Rattle.fate_ledger.specs.declared.ending.Ending.{Ending}
use Rattle.fate_ledger.specs.declared.ending.Ending.TheVariants.{Removal, Dispatch, Everything, SafeQuit, Nothing}

-- what a look with this reply ends
abbrev pub ending_of_look : Reply → Ending
ending_of_look (Dispatched n) = Dispatch n
ending_of_look Disposed = Everything
ending_of_look _ = Nothing

-- what a call with this reply ends
abbrev pub ending_of : Call → Reply → Ending
ending_of (Remove f) r = Removal f
ending_of (Next now) r = ending_of_look r
ending_of (Quit safe now) r = if is_quit_done r then (if safe then SafeQuit now else Everything) else Nothing
ending_of _ r = Nothing
