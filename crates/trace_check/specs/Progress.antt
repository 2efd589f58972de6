-- A trace that is read line by line.
use Rattle.std.specs.Prelude.{◌-◌, ◌==◌, Bool, true, false, [], ◌∷◌, ◌++◌, Option, Some, None, if◌then◌else◌}
use Rattle.trace_check.specs.declared.trace.TraceQueue.{TraceQueue}
use Rattle.loop_model.specs.declared.entry.Entry.{Entry as EntryData}
use Rattle.line_words.specs.LineReading.{Reading, plain}
use Rattle.line_words.specs.Refusing.{Language}
use Rattle.trace_check.specs.declared.line.Head.{Head}
use Rattle.trace_check.specs.declared.line.TraceLine.{TraceLine}
use Rattle.trace_check.specs.declared.line.TraceLine.TheVariants.{Title, Queue, Entry, End}
use Rattle.trace_check.specs.declared.draft.Part.{Part}
use Rattle.trace_check.specs.declared.draft.Part.TheVariants as part_of
use Rattle.trace_check.specs.declared.draft.Draft.{Draft}
use Rattle.trace_check.specs.declared.trace.Trace.{Trace}
use Rattle.line_words.specs.Words.{words}
use Rattle.trace_check.specs.Reading.{line_of}

-- no queue
abbrev pub blank : TraceQueue
blank = record { looper = 0; main = false; lockstep = false; senders = 0; entries = [] }

-- a queue without entries
abbrev pub opened : Head → TraceQueue
opened h = record { looper = h.looper; main = h.main; lockstep = h.lockstep; senders = h.senders; entries = [] }

-- nothing is read yet
abbrev pub start : Draft
start = record { part = part_of.Start; queues = []; current = blank; left = 0 }

-- a queue that has all its entries goes to the others
abbrev pub settled : Draft → Draft
settled d = if d.left == 0 then record d { queues = d.queues ++ d.current ∷ []; current = blank } else d

-- the queue with one more entry
abbrev pub queue_with_entry : TraceQueue → EntryData → TraceQueue
queue_with_entry q e = record q { entries = q.entries ++ e ∷ [] }

-- what the first line makes of a draft
abbrev pub after_start : Draft → TraceLine → Option Draft
after_start d Title = Some (record d { part = part_of.Body })
after_start d _ = None

-- what a line makes of a draft whose queues have all their entries
abbrev pub after_queues : Draft → TraceLine → Option Draft
after_queues d (Queue h) = Some (settled (record d { current = opened h; left = h.count }))
after_queues d End = Some (record d { part = part_of.End })
after_queues d _ = None

-- what a line makes of a draft whose last queue has entries to come
abbrev pub after_entries : Draft → TraceLine → Option Draft
after_entries d (Entry e) = Some (settled (record d { current = queue_with_entry d.current e; left = d.left - 1 }))
after_entries d _ = None

-- what a line makes of a draft in this part
abbrev pub after_part : Part → Draft → TraceLine → Option Draft
after_part part_of.Start d l = after_start d l
after_part part_of.Body d l = if d.left == 0 then after_queues d l else after_entries d l
after_part part_of.End d l = None

-- the draft with one more line, where the line may come next
unfoldable pub next : Draft → TraceLine → Option Draft
next d l = after_part d.part d l

abbrev pub is_trace_end : Part → Bool
is_trace_end part_of.End = true
is_trace_end _ = false

abbrev pub trace_so_far : Draft → Trace
trace_so_far d = record { queues = d.queues }

-- how the lines of a trace are read
abbrev pub reading : Reading TraceLine Draft Trace
reading = record { start = start; line_of = λ bytes. line_of (words bytes); next = next; is_end = λ d. is_trace_end d.part; whole = trace_so_far }

-- the language of traces
abbrev pub trace_language : Language TraceLine Draft Trace (Unit {0})
trace_language = plain reading
