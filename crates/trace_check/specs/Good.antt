-- Which histories of a queue are good, and which entry is the first bad one.
use Rattle.std.specs.Prelude.{◌+◌, ◌<◌, ℕ, List, take, length}
use Rattle.loop_model.specs.declared.entry.Entry.{Entry}
use Rattle.trace_check.specs.declared.trace.TraceQueue.{TraceQueue}
use Rattle.loop_model.specs.Answers.{Setting}
use Rattle.loop_model.specs.Base.{empty_base}
use Rattle.loop_model.specs.Legal.{IsLegal, AreNumbered}

-- what stays fixed for the queue
abbrev pub trace_setting : TraceQueue → Setting
trace_setting q = record { main = q.main; lockstep = q.lockstep; senders = q.senders }

-- these entries are a history that the queue could have had from an empty start, and its senders number them
abbrev pub IsGood : TraceQueue → List Entry → Type 0
IsGood q es = IsLegal (trace_setting q) (empty_base q.senders) es × AreNumbered (trace_setting q) (empty_base q.senders) es

-- the queue's history is legal, and its senders number their entries
abbrev pub IsLegalQueue : TraceQueue → Type 0
IsLegalQueue q = IsGood q q.entries

-- this is the least place with whose entry the entries up to it are no such history
pub record IsFirstBad (q : TraceQueue) (place : ℕ) : Type 0 where
  pub within : place < length q.entries
  pub before : IsGood q (take place q.entries)
  pub at : IsGood q (take (place + 1) q.entries) → ⊥
