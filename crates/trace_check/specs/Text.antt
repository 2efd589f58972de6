-- The text of a trace, where a text that is none goes wrong, and the trace of the records that a looper keeps of its queues.
use Rattle.std.specs.Prelude.{◌≡◌, ℕ, List, [], ◌∷◌, ◌++◌, map, length}
use Rattle.std.specs.List.{flat_map, AllByRecursion}
use Rattle.loop_model.specs.declared.record.QueueRecord.{QueueRecord}
use Rattle.loop_model.specs.Chain.{entries_of}
use Rattle.trace_check.specs.declared.trace.TraceQueue.{TraceQueue}
use Rattle.line_words.specs.LeastBad.{IsLeastBad}
use Rattle.trace_check.specs.declared.line.Head.{Head}
use Rattle.trace_check.specs.declared.line.TraceLine.{TraceLine}
use Rattle.trace_check.specs.declared.line.TraceLine.TheVariants.{Title, Queue, Entry, End}
use Rattle.trace_check.specs.declared.trace.Trace.{Trace}
use Rattle.line_words.specs.Words.{line}
use Rattle.line_words.specs.Written.{spelled_words}
use Rattle.trace_check.specs.Line.{trace_line_words, FitsLine}

-- the line of a queue, which has so many entries
abbrev pub queue_head : TraceQueue → ℕ → Head
queue_head q count = record { looper = q.looper; main = q.main; lockstep = q.lockstep; senders = q.senders; count = count }

-- the line of a queue, and one for each of its entries
abbrev pub queue_lines : TraceQueue → List TraceLine
queue_lines q = Queue (queue_head q (length q.entries)) ∷ map Entry q.entries

-- the lines of a trace
abbrev pub trace_lines : Trace → List TraceLine
trace_lines t = (Title ∷ flat_map queue_lines t.queues) ++ End ∷ []

-- how a line is written
unfoldable pub trace_line_text : TraceLine → List ℕ
trace_line_text l = line (spelled_words (trace_line_words l))

-- the text of a trace
abbrev pub trace_text : Trace → List ℕ
trace_text t = flat_map trace_line_text (trace_lines t)

-- b is the text of t, whose numbers are within their limits
abbrev pub IsTraceText : List ℕ → Trace → Type 0
IsTraceText b t = (b ≡ trace_text t) × AllByRecursion FitsLine (trace_lines t)

-- this is the least bad line of a text that is the text of no trace
abbrev pub IsLeastBadOfTrace : List ℕ → ℕ → Type 0
IsLeastBadOfTrace b k = IsLeastBad IsTraceText b k

-- the queue of a trace that says what the record says, the entries of all its parts in order
abbrev pub trace_queue_of : QueueRecord → TraceQueue
trace_queue_of q = record { looper = q.looper; main = q.main; lockstep = q.lockstep; senders = q.senders; entries = entries_of q.segments }

-- the trace whose queues are these records' in their order
abbrev pub trace_of : List QueueRecord → Trace
trace_of qs = record { queues = map trace_queue_of qs }
