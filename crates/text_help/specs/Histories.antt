-- What is said of the histories of a trace.
use Rattle.std.specs.Prelude.{◌≡◌, ℕ, List, All, Some, slice_get, slice_index_or, take, string_bytes}
use Rattle.loop_model.specs.declared.entry.Entry.{Entry}
use Rattle.trace_check.specs.declared.trace.Trace.{Trace}
use Rattle.trace_check.specs.declared.trace.TraceQueue.{TraceQueue}
use Rattle.trace_check.specs.declared.fault.Fault.{Fault}
use Rattle.trace_check.specs.Checking.{IsFaultAfter}
use Rattle.trace_check.specs.Good.{IsFirstBad}
pub use Rattle.trace_check.specs.Good.{IsLegalQueue}
use Rattle.trace_check.specs.Text.{IsTraceText, IsLeastBadOfTrace}
use Rattle.text_help.specs.declared.said.SaidOfTrace.{SaidOfTrace}
use Rattle.text_help.specs.declared.said.SaidOfTrace.TheVariants as said
use Rattle.text_help.specs.declared.histories.Found.{Found}
use Rattle.text_help.specs.declared.histories.Found.TheVariants as found
use Rattle.text_help.specs.Heads.{BeginsWith, trace_head}

-- the first queue with a history that no queue could have is the one of this index; its entry of this place is the first bad one, for this fault
pub record IsFirstFault (queues : List TraceQueue) (index place : ℕ) (fault : Fault) : Type 0 where
  pub queue : TraceQueue
  pub is_there : slice_get queues index ≡ Some queue
  pub legal_before : All IsLegalQueue (take index queues)
  pub first_bad : IsFirstBad queue place
  pub why : (d : Entry) → IsFaultAfter queue (take place queue.entries) (slice_index_or queue.entries place d) fault

-- what is found of the queues of a trace
abbrev pub IsFound : List TraceQueue → Found → Type 0
IsFound queues found.Legal = All IsLegalQueue queues
IsFound queues (found.Illegal index place fault) = IsFirstFault queues index place fault

-- good is a trace of legal histories; bad is the least bad line of what is no trace, with which the text begins; illegal is a trace by the
-- first bad entry of its first queue that has one
abbrev pub IsSaidOfTrace : SaidOfTrace → List ℕ → Type 0
IsSaidOfTrace (said.Good text) b = (t : Trace) × IsTraceText b t × All IsLegalQueue t.queues
IsSaidOfTrace (said.Bad line text) b = IsLeastBadOfTrace b line × BeginsWith (trace_head line) (string_bytes text)
IsSaidOfTrace (said.Illegal index place fault text) b = (t : Trace) × IsTraceText b t × IsFirstFault t.queues index place fault
IsSaidOfTrace said.NoMemory b = Unit {0}
