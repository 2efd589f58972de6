-- One queue more is judged.
use Rattle.std.proofs.Common.{◌≡◌, ◌+◌, ◌<◌, ◌≤◌, ℕ, List, refl, subst, take, length, slice_index_or}
use Rattle.std.specs.Prelude.{All}
use Rattle.std.proofs.lemmas.List.{take_all}
use Rattle.std.proofs.lemmas.List.Elements.{All-more}
use Rattle.std.proofs.lemmas.Option.{slice_get_read}
use Rattle.loop_model.specs.declared.entry.Entry.{Entry}
use Rattle.trace_check.specs.declared.trace.TraceQueue.{TraceQueue}
use Rattle.trace_check.specs.declared.fault.Fault.{Fault}
use Rattle.trace_check.specs.Checking.{IsFaultAfter}
use Rattle.trace_check.specs.Good.{IsFirstBad}
use Rattle.text_help.specs.Histories.{IsFirstFault, IsLegalQueue}

pub one_more : (queues : List TraceQueue) (i : ℕ) (queue : TraceQueue) → i < length queues → queue ≡ slice_index_or queues i queue
    → All IsLegalQueue (take i queues) → IsLegalQueue queue → All IsLegalQueue (take (i + 1) queues)
one_more queues i queue inside is before legal = All-more IsLegalQueue queues i queue inside before (subst IsLegalQueue is legal)

pub first_illegal : (queues : List TraceQueue) (i : ℕ) (queue : TraceQueue) (place : ℕ) (fault : Fault) → i < length queues → queue ≡ slice_index_or queues i queue
    → All IsLegalQueue (take i queues) → IsFirstBad queue place → ((d : Entry) → IsFaultAfter queue (take place queue.entries) (slice_index_or queue.entries place d) fault)
    → IsFirstFault queues i place fault
first_illegal queues i queue place fault inside is before bad why = record {
  queue = queue;
  is_there = slice_get_read queues (length queues) i queue refl inside is;
  legal_before = before;
  first_bad = bad;
  why = why;
}

pub all_of_them : (queues : List TraceQueue) (i : ℕ) → length queues ≤ i → All IsLegalQueue (take i queues) → All IsLegalQueue queues
all_of_them queues i over legal = subst (All IsLegalQueue) (take_all i queues over) legal
