-- What a looper lets go.
use Rattle.std.specs.Prelude.{[], Result, Ok, Err}
use Rattle.loop_model.specs.declared.memory.NoMemory.{NoMemory}
use Rattle.loop_model.specs.declared.segment.Segment.{Segment}
use Rattle.shared_queue.specs.Calls.{SealedBy}
use Rattle.looper_run.specs.Holding.{Looping, IsBeside}

-- the same looper, with no act in its journal
abbrev pub untold : Looping → Looping
untold l = record l { held = record l.held { journal = record l.held.journal { acts = [] } } }

-- the acts were let go, and a part of the queue's history was, unless memory ran out
abbrev pub LetsGo : Result (Unit {0}) NoMemory → Looping → Looping → Type 0
LetsGo (Ok done) before after = ((part : Segment) × SealedBy before.held.poster after.held.poster (Ok part)) × IsBeside (untold before) after
LetsGo (Err e) before after = SealedBy before.held.poster after.held.poster (Err e) × IsBeside (untold before) after
