-- The messages that a looper takes from its queue, as its history and its journal tell them.
use Rattle.std.specs.Prelude.{ℕ, List, Option, Some, None}
use Rattle.std.specs.List.{filter_map}
use Rattle.loop_model.specs.declared.call.Call.{Call}
use Rattle.loop_model.specs.declared.call.Call.TheVariants.{Next}
use Rattle.loop_model.specs.declared.reply.Reply.{Reply}
use Rattle.loop_model.specs.declared.reply.Reply.TheVariants.{Dispatched}
use Rattle.loop_model.specs.declared.journal.Act.{Act}
use Rattle.loop_model.specs.declared.journal.Act.TheVariants.{Dispatch, Idle, Event, Vsync, Paint}

-- the number and the moment of the message that an act dispatches
abbrev pub act_dispatch : Act → Option (ℕ × ℕ)
act_dispatch (Dispatch n now route) = Some (n, now)
act_dispatch (Idle i k) = None
act_dispatch (Event f e m) = None
act_dispatch (Vsync s) = None
act_dispatch (Paint g v) = None

-- the messages that acts dispatch, in order
abbrev pub dispatches : List Act → List (ℕ × ℕ)
dispatches acts = filter_map act_dispatch acts

-- the number and the moment of the message that a call takes
abbrev pub call_dispatch : Call → Reply → Option (ℕ × ℕ)
call_dispatch (Next now) (Dispatched n) = Some (n, now)
call_dispatch _ _ = None
