-- A text is read to the trace whose text it is, or to its least bad line.
use Rattle.std.proofs.Common.{◌≡◌, ◌+◌, ◌-◌, ◌<◌, ℕ, zero, suc, true, false, cond, eqb, List, [], ◌∷◌, ◌++◌, map, length, Some, None, Ok, Err, refl, sym, ap, subst, ◌∙◌, inl, inr, arith, append_assoc}
use Rattle.std.specs.Prelude.{◌&&◌}
use Rattle.std.specs.List.{flat_map, AllByRecursion}
use Rattle.std.specs.Option.{option_and_then}
use Rattle.std.proofs.lemmas.Bool.{cases_Bool, eqb-true, eqb-false, ne_eqb}
use Rattle.std.proofs.lemmas.Option.{same_Some, none-some}
use Rattle.std.proofs.lemmas.List.{append-nil, map-append, length-append}
use Rattle.std.proofs.lemmas.List.Concat.{flat_map-append}
use Rattle.trace_check.specs.declared.trace.TraceQueue.{TraceQueue}
use Rattle.loop_model.specs.declared.entry.Entry.{Entry as EntryData}
use Rattle.loop_model.specs.declared.call.Call.TheVariants as call_of
use Rattle.loop_model.specs.declared.reply.Reply.TheVariants as reply_of
use Rattle.loop_model.proofs.Sorting.{AllByRecursion-append}
use Rattle.line_words.specs.Answers.{Finds, FindsAll, Names}
use Rattle.line_words.specs.RefusedReading.{read_from, read_text}
use Rattle.line_words.proofs.Refusing.{answer, failed}
use Rattle.line_words.proofs.LineReading.{run, run_on, Continues, IsForm, plain_ended, plain_stopped, text_found, text_only, text_never, text_bad}
use Rattle.trace_check.specs.declared.line.TraceLine.{TraceLine}
use Rattle.trace_check.specs.declared.line.TraceLine.TheVariants.{Title, Queue, Entry, End}
use Rattle.trace_check.specs.declared.draft.Part.{Part}
use Rattle.trace_check.specs.declared.draft.Part.TheVariants as part_of
use Rattle.trace_check.specs.declared.draft.Draft.{Draft}
use Rattle.trace_check.specs.declared.trace.Trace.{Trace}
use Rattle.trace_check.specs.declared.trace.ParsedTrace.TheVariants as parsed
use Rattle.std.specs.List.{join_with_byte}
use Rattle.line_words.specs.Words.{words, spelled_number}
use Rattle.line_words.specs.Written.{spelled_words}
use Rattle.line_words.specs.Taking.{short, long}
use Rattle.trace_check.specs.Line.{trace_line_words, FitsLine}
use Rattle.trace_check.specs.Text.{queue_head, queue_lines, trace_lines, trace_line_text, IsLeastBadOfTrace, IsTraceText}
use Rattle.trace_check.specs.Reading.{line_of, entry}
use Rattle.trace_check.specs.Progress.{blank, opened, start, settled, queue_with_entry, after_part, next, is_trace_end, trace_so_far, reading, trace_language}
use Rattle.line_words.proofs.Wording.{AreWords, words_again, words_taken, no_feed_within}
use Rattle.trace_check.proofs.Taken.{line_taken}
use Rattle.trace_check.proofs.Again.{line_again, line_are}

abbrev AllFits : List TraceLine → Type 0
AllFits ls = AllByRecursion FitsLine ls

-- ---- one line

-- the bytes of a line, without its line feed
abbrev bytes_of : TraceLine → List ℕ
bytes_of l = join_with_byte 32 (spelled_words (trace_line_words l))

fed : (l : TraceLine) → trace_line_text l ≡ bytes_of l ++ 10 ∷ []
unfolding trace_line_text
fed l = refl

words_said : (l : TraceLine) (w : List ℕ) (ws : List (List ℕ)) → spelled_words (trace_line_words l) ≡ w ∷ ws → FitsLine l → line_of (words (bytes_of l)) ≡ Some l
words_said l w ws e fit =
    let all : AreWords (w ∷ ws) = subst AreWords e (line_are l fit) in
    ap (λ v. line_of (words (join_with_byte 32 v))) e ∙ ap line_of (words_again w ws all) ∙ ap line_of (sym e) ∙ line_again l fit

read_again : (l : TraceLine) → FitsLine l → line_of (words (bytes_of l)) ≡ Some l
read_again Title fit = words_said Title _ _ refl fit
read_again (Queue h) fit = words_said (Queue h) _ _ refl fit
read_again (Entry e) fit = words_said (Entry e) _ _ refl fit
read_again End fit = words_said End _ _ refl fit

-- ---- the lines of a draft

-- a queue that has entries to come
abbrev open_lines : Draft → List TraceLine
open_lines d = Queue (queue_head d.current (length d.current.entries + d.left)) ∷ map Entry d.current.entries

abbrev current_lines : Draft → List TraceLine
current_lines d = cond (eqb d.left 0) [] (open_lines d)

abbrev front_lines : Draft → List TraceLine
front_lines d = Title ∷ flat_map queue_lines d.queues

-- the lines that make the draft
abbrev so_far : Part → Draft → List TraceLine
so_far part_of.Start d = []
so_far part_of.Body d = front_lines d ++ current_lines d
so_far part_of.End d = front_lines d ++ End ∷ []

-- nothing stands in a draft before its first line
abbrev IsSound : Part → Draft → Type 0
IsSound part_of.Start d = (d.queues ≡ []) × (d.left ≡ 0)
IsSound part_of.Body d = Unit {0}
IsSound part_of.End d = Unit {0}

settled_lines : (d : Draft) → d.part ≡ part_of.Body → (so_far (settled d).part (settled d) ≡ front_lines d ++ open_lines d) × IsSound (settled d).part (settled d)
settled_lines d body =
    elim (cases_Bool (eqb d.left 0)) [
      | inl none ↦
          let e : Draft = record d { queues = d.queues ++ d.current ∷ []; current = blank } in
          let is : settled d ≡ e = rw none refl in
          let left : d.left ≡ 0 = eqb-true d.left 0 none in
          let count : length d.current.entries + d.left ≡ length d.current.entries = omega (arith, left) in
          let last : queue_lines d.current ++ [] ≡ open_lines d = append-nil (queue_lines d.current) ∙ ap (λ n. Queue (queue_head d.current n) ∷ map Entry d.current.entries) (sym count) in
          let whole : front_lines e ++ current_lines e ≡ front_lines d ++ open_lines d =
          rw none (append-nil (front_lines e) ∙ ap (λ ls. Title ∷ ls) (flat_map-append queue_lines d.queues (d.current ∷ [])) ∙ ap (λ ls. front_lines d ++ ls) last) in
          subst (λ (x : Draft). (so_far x.part x ≡ front_lines d ++ open_lines d) × IsSound x.part x) (sym is) (rw body (whole, tt))
      | inr some ↦
          let is : settled d ≡ d = rw some refl in
          let whole : front_lines d ++ current_lines d ≡ front_lines d ++ open_lines d = rw some refl in
          subst (λ (x : Draft). (so_far x.part x ≡ front_lines d ++ open_lines d) × IsSound x.part x) (sym is) (rw body (whole, tt))
    ]

abbrev Grown : List TraceLine → TraceLine → Draft → Type 0
Grown ls l e = (ls ++ l ∷ [] ≡ so_far e.part e) × IsSound e.part e

start_grows : (d e : Draft) (l : TraceLine) → IsSound part_of.Start d → after_part part_of.Start d l ≡ Some e → Grown [] l e
start_grows d e Title sound h =
    let made : Draft = record d { part = part_of.Body } in
    let lines_are : Title ∷ [] ≡ front_lines made ++ current_lines made = rw (sound.0, sound.1) refl in
    subst (Grown [] Title) (same_Some made e h) (lines_are, tt)
start_grows d e (Queue h) sound g = absurd (none-some e g)
start_grows d e (Entry x) sound g = absurd (none-some e g)
start_grows d e End sound g = absurd (none-some e g)

queues_grow : (d e : Draft) (l : TraceLine) (ls : List TraceLine) → d.part ≡ part_of.Body → ls ≡ front_lines d → after_part part_of.Body (record d { left = 0 }) l ≡ Some e → Grown ls l e
queues_grow d e Title ls body is h = absurd (none-some e h)
queues_grow d e (Queue head) ls body is h =
    let made : Draft = record d { current = opened head; left = head.count } in
    let s = settled_lines made body in
    let count : 0 + head.count ≡ head.count = omega arith in
    let lines_are : ls ++ Queue head ∷ [] ≡ so_far (settled made).part (settled made) = ap (λ x. x ++ Queue head ∷ []) is ∙ ap (λ n. front_lines d ++ Queue (queue_head (opened head) n) ∷ []) (sym count) ∙ sym s.0 in
    subst (Grown ls (Queue head)) (same_Some (settled made) e h) (lines_are, s.1)
queues_grow d e (Entry x) ls body is h = absurd (none-some e h)
queues_grow d e End ls body is h =
    let made : Draft = record d { part = part_of.End; left = 0 } in
    subst (Grown ls End) (same_Some made e h) (ap (λ x. x ++ End ∷ []) is, tt)

entries_grow : (d e : Draft) (l : TraceLine) (ls : List TraceLine) → d.part ≡ part_of.Body → eqb d.left 0 ≡ false → ls ≡ front_lines d ++ open_lines d → after_part part_of.Body d l ≡ Some e → Grown ls l e
entries_grow d e Title ls body some is h = absurd (none-some e (rw some at h))
entries_grow d e (Queue x) ls body some is h = absurd (none-some e (rw some at h))
entries_grow d e End ls body some is h = absurd (none-some e (rw some at h))
entries_grow d e (Entry x) ls body some is h =
    let made : Draft = record d { current = queue_with_entry d.current x; left = d.left - 1 } in
    let s = settled_lines made body in
    let positive = eqb-false d.left 0 some in
    let count : length (d.current.entries ++ x ∷ []) + (d.left - 1) ≡ length d.current.entries + d.left = omega (arith, positive, length-append d.current.entries (x ∷ [])) in
    let head = Queue (queue_head d.current (length d.current.entries + d.left)) in
    let opened_are : open_lines made ≡ open_lines d ++ Entry x ∷ [] =
    ap (λ n. Queue (queue_head d.current n) ∷ map Entry (d.current.entries ++ x ∷ [])) count ∙ ap (λ es. head ∷ es) (map-append Entry d.current.entries (x ∷ [])) in
    let lines_are : ls ++ Entry x ∷ [] ≡ so_far (settled made).part (settled made) =
    ap (λ y. y ++ Entry x ∷ []) is ∙ append_assoc (front_lines d) (open_lines d) (Entry x ∷ []) ∙ ap (λ y. front_lines d ++ y) (sym opened_are) ∙ sym s.0 in
    let same : settled made ≡ e = same_Some (settled made) e (rw some at h) in
    subst (Grown ls (Entry x)) same (lines_are, s.1)

grows : (p : Part) (d e : Draft) (l : TraceLine) (ls : List TraceLine) → d.part ≡ p → ls ≡ so_far p d → IsSound p d → after_part p d l ≡ Some e → Grown ls l e
grows part_of.Start d e l ls is written sound h = subst (λ x. Grown x l e) (sym written) (start_grows d e l sound h)
grows part_of.End d e l ls is written sound h = absurd (none-some e h)
grows part_of.Body d e l ls is written sound h =
    elim (cases_Bool (eqb d.left 0)) [
      | inl none ↦
          let left = eqb-true d.left 0 none in
          let lines_are : ls ≡ front_lines d = written ∙ (rw none (append-nil (front_lines d))) in
          queues_grow d e l ls is lines_are (subst (λ n. after_part part_of.Body (record d { left = n }) l ≡ Some e) left h)
      | inr some ↦ entries_grow d e l ls is some (written ∙ (rw some refl)) h
    ]

-- after these lines the draft stands so
record Stands (d : Draft) (ls : List TraceLine) : Type 0 where
  pub written : ls ≡ so_far d.part d
  pub sound : IsSound d.part d

stands_on : (d e : Draft) (l : TraceLine) (ls : List TraceLine) → Stands d ls → next d l ≡ Some e → Stands e (ls ++ l ∷ [])
unfolding next
stands_on d e l ls s h =
    let g = grows d.part d e l ls refl s.written s.sound h in
    record { written = g.0; sound = g.1 }

-- ---- each draft begins a trace

-- entries to fill a queue with
fill : ℕ → List EntryData
fill zero = []
fill (suc n) = record { sender = 0; seq = 0; call = call_of.Halt 0; reply = reply_of.Halted } ∷ fill n

fill_counted : (n : ℕ) → length (fill n) ≡ n
unfolding fill
fill_counted zero = refl
fill_counted (suc n) = let h = fill_counted n in omega (arith, h)

fill_fits : (n : ℕ) → AllFits (map Entry (fill n))
unfolding fill
fill_fits zero = tt
fill_fits (suc n) = ((omega arith, (omega arith, (tt, (omega arith, (tt, tt))))), fill_fits n)

continues : (p : Part) (d : Draft) (ls : List TraceLine) → ls ≡ so_far p d → Continues FitsLine trace_lines ls
continues part_of.Start d ls written = (record { queues = [] }, Title ∷ End ∷ [], ap (λ x. x ++ Title ∷ End ∷ []) written, ((tt, (tt, tt)), ((tt, tt), tt)))
continues part_of.End d ls written = (trace_so_far d, [], append-nil ls ∙ written, tt)
continues part_of.Body d ls written =
    elim (cases_Bool (eqb d.left 0)) [
      | inl none ↦
          let lines_are : ls ≡ front_lines d = written ∙ (rw none (append-nil (front_lines d))) in
          (trace_so_far d, End ∷ [], ap (λ x. x ++ End ∷ []) lines_are, ((tt, tt), tt))
      | inr some ↦
          let lines_are : ls ≡ front_lines d ++ open_lines d = written ∙ (rw some refl) in
          let q : TraceQueue = record d.current { entries = d.current.entries ++ fill d.left } in
          let t : Trace = record { queues = d.queues ++ q ∷ [] } in
          let count : length (d.current.entries ++ fill d.left) ≡ length d.current.entries + d.left = omega (arith, fill_counted d.left, length-append d.current.entries (fill d.left)) in
          let head = Queue (queue_head d.current (length d.current.entries + d.left)) in
          let last : queue_lines q ++ [] ≡ open_lines d ++ map Entry (fill d.left) =
          append-nil (queue_lines q) ∙ ap (λ n. Queue (queue_head d.current n) ∷ map Entry (d.current.entries ++ fill d.left)) count ∙ ap (λ es. head ∷ es) (map-append Entry d.current.entries (fill d.left)) in
          let body : Title ∷ flat_map queue_lines t.queues ≡ ls ++ map Entry (fill d.left) =
          ap (λ x. Title ∷ x) (flat_map-append queue_lines d.queues (q ∷ [])) ∙ ap (λ x. front_lines d ++ x) last ∙ sym (append_assoc (front_lines d) (open_lines d) (map Entry (fill d.left))) ∙ ap (λ x. x ++ map Entry (fill d.left)) (sym lines_are) in
          let whole : ls ++ (map Entry (fill d.left) ++ End ∷ []) ≡ trace_lines t = sym (append_assoc ls (map Entry (fill d.left)) (End ∷ [])) ∙ ap (λ x. x ++ End ∷ []) (sym body) in
          (t, map Entry (fill d.left) ++ End ∷ [], whole, AllByRecursion-append FitsLine (map Entry (fill d.left)) (End ∷ []) (fill_fits d.left) ((tt, tt), tt))
    ]

-- ---- lines one after the other

-- a draft between two queues
abbrev between : List TraceQueue → Draft
between qs = record { part = part_of.Body; queues = qs; current = blank; left = 0 }

-- a draft within a queue
abbrev within : List TraceQueue → TraceQueue → ℕ → Draft
within qs q n = record { part = part_of.Body; queues = qs; current = q; left = n }

abbrev holding : TraceQueue → List EntryData → TraceQueue
holding q es = record q { entries = es }

settled_more : (qs : List TraceQueue) (q : TraceQueue) (n : ℕ) → 0 < n → settled (within qs q n) ≡ within qs q n
settled_more qs q n lt = let some : eqb n 0 ≡ false = ne_eqb n 0 (λ z. omega (arith, z, lt)) in rw some refl

entry_next : (qs : List TraceQueue) (q : TraceQueue) (m n : ℕ) (e : EntryData) → m ≡ n + 1 → next (within qs q m) (Entry e) ≡ Some (settled (within qs (queue_with_entry q e) n))
unfolding next
entry_next qs q m n e is =
    let some : eqb m 0 ≡ false = ne_eqb m 0 (λ z. omega (arith, z, is)) in
    let less : m - 1 ≡ n = omega (arith, is) in
    rw (some, less) refl

entries_run : (qs : List TraceQueue) (q : TraceQueue) (before : List EntryData) (e : EntryData) (es : List EntryData) (m : ℕ) → m ≡ length es + 1
    → run reading (within qs (holding q before) m) (map Entry (e ∷ es)) ≡ Some (between (qs ++ holding q (before ++ e ∷ es) ∷ []))
unfolding run
entries_run qs q before e [] m is = ap (option_and_then (λ x. run reading x [])) (entry_next qs (holding q before) m 0 e is)
entries_run qs q before e (f ∷ es) m is =
    let n = length es + 1 in
    ap (option_and_then (λ x. run reading x (map Entry (f ∷ es)))) (entry_next qs (holding q before) m n e (omega (arith, is)) ∙ ap (λ (d : Draft). Some d) (settled_more qs (holding q (before ++ e ∷ [])) n (omega arith)))
    ∙ entries_run qs q (before ++ e ∷ []) f es n refl ∙ ap (λ x. Some (between (qs ++ holding q x ∷ []))) (append_assoc before (e ∷ []) (f ∷ es))

queue_run : (qs : List TraceQueue) (q : TraceQueue) (es : List EntryData) → run reading (between qs) (queue_lines (holding q es)) ≡ Some (between (qs ++ holding q es ∷ []))
unfolding run next
queue_run qs q [] = refl
queue_run qs q (e ∷ es) =
    let n = length (e ∷ es) in
    ap (λ (d : Draft). run reading d (map Entry (e ∷ es))) (settled_more qs (holding q []) n (omega arith)) ∙ entries_run qs q [] e es n (omega arith)

queues_run : (qs rs : List TraceQueue) → run reading (between qs) (flat_map queue_lines rs) ≡ Some (between (qs ++ rs))
unfolding run
queues_run qs [] = ap (λ x. Some (between x)) (sym (append-nil qs))
queues_run qs (q ∷ rs) =
    run_on reading (between qs) (between (qs ++ q ∷ [])) (between (qs ++ q ∷ rs)) (queue_lines q) (flat_map queue_lines rs) (queue_run qs q q.entries)
    (queues_run (qs ++ q ∷ []) rs ∙ ap (λ x. Some (between x)) (append_assoc qs (q ∷ []) rs))

abbrev finished : Trace → Draft
finished t = record { part = part_of.End; queues = t.queues; current = blank; left = 0 }

lines_run : (t : Trace) → run reading start (trace_lines t) ≡ Some (finished t)
unfolding run next
lines_run t =
    run_on reading start (between t.queues) (finished t) (Title ∷ flat_map queue_lines t.queues) (End ∷ []) (queues_run [] t.queues) refl

-- ---- the whole text

ending : (q : Part) (d : Draft) (ls : List TraceLine) → is_trace_end q ≡ true → ls ≡ so_far q d → ls ≡ trace_lines (trace_so_far d)
ending part_of.Start d ls e w = absurd cc
ending part_of.Body d ls e w = absurd cc
ending part_of.End d ls e w = w

pub nothing_said : line_of (words []) ≡ None
unfolding line_of entry short long spelled_number
nothing_said = refl

form : IsForm reading bytes_of trace_line_text trace_lines FitsLine Stands
form = record {
  fed = fed;
  free = λ l fit. no_feed_within (spelled_words (trace_line_words l)) (line_are l fit);
  again = read_again;
  taken = λ bytes l is. (let t = line_taken (words bytes) l is in (t.0, words_taken bytes (spelled_words (trace_line_words l)) t.1));
  empty = nothing_said;
  leads = λ t. (finished t, lines_run t, refl, refl);
  starts = record { written = refl; sound = (refl, refl) };
  more = stands_on;
  ends = λ d ls s e. ending d.part d ls e s.written;
  continues = λ d ls s. continues d.part d ls s.written;
}

-- ---- where a text stops

pub text_ends : (k : ℕ) (d : Draft) (bytes : List ℕ) → (eqb (length bytes) 0 && is_trace_end d.part) ≡ true → read_from trace_language k d (bytes ∷ []) ≡ answer (trace_so_far d)
text_ends k d bytes ends = plain_ended form k d bytes ends

pub text_stops : (k : ℕ) (d : Draft) (bytes : List ℕ) → (eqb (length bytes) 0 && is_trace_end d.part) ≡ false → read_from trace_language k d (bytes ∷ []) ≡ failed k tt
text_stops k d bytes other = plain_stopped form k d bytes other

-- ---- what is answered

pub found_in : (b : List ℕ) (s : Trace) → read_text trace_language b ≡ Ok s → Finds parsed.Ok IsTraceText (parsed.Ok s) b
found_in b s e t is = let same : s ≡ t = cc in text_found form b t (e ∙ ap answer same)

pub found_only : (b : List ℕ) (s : Trace) → read_text trace_language b ≡ Ok s → FindsAll parsed.Ok parsed.NoMemory IsTraceText (parsed.Ok s) b
found_only b s e t is = inl (ap parsed.Ok (text_only form b s t e is))

pub found_never : (b : List ℕ) (k : ℕ) → read_text trace_language b ≡ Err (k, tt) → FindsAll parsed.Ok parsed.NoMemory IsTraceText (parsed.Bad k) b
found_never b k e t is = absurd (text_never form b k tt t e is)

pub refused_as : (b : List ℕ) (k : ℕ) → read_text trace_language b ≡ Err (k, tt) → Names parsed.Bad IsLeastBadOfTrace (parsed.Bad k) b
refused_as b k e j is = let same : k ≡ j = cc in subst (IsLeastBadOfTrace b) same (text_bad form b k tt e)
