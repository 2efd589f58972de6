-- A text is read to the report whose text it is, or to its least bad line.
use Rattle.std.proofs.Common.{◌&&◌, ◌≡◌, ◌+◌, ℕ, suc, true, false, eqb, List, [], ◌∷◌, ◌++◌, map, length, Some, None, Ok, Err, refl, sym, ap, subst, ◌∙◌, inl, inr, arith, append_assoc}
use Rattle.std.specs.List.{join_with_byte, flat_map, AllByRecursion}
use Rattle.std.specs.Option.{option_and_then}
use Rattle.std.proofs.lemmas.Bool.{cases_Bool, eqb-true, eq-eqb}
use Rattle.std.proofs.lemmas.Option.{same_Some, none-some}
use Rattle.std.proofs.lemmas.List.{append-nil, map-append, length-append}
use Rattle.std.proofs.lemmas.List.Concat.{flat_map-append}
use Rattle.loop_model.proofs.Sorting.{AllByRecursion-append}
use Rattle.line_words.specs.Answers.{Finds, FindsAll, Names}
use Rattle.line_words.specs.Words.{words, spelled_number}
use Rattle.line_words.specs.Written.{Long, FitsWord, spelled_words}
use Rattle.line_words.specs.RefusedReading.{read_from, read_text}
use Rattle.line_words.proofs.Refusing.{answer, failed}
use Rattle.line_words.proofs.LineReading.{run, run_on, Continues, IsForm, plain_ended, plain_stopped, text_found, text_only, text_never, text_bad}
use Rattle.run_picture.specs.declared.report.Past.{Past as PastData}
use Rattle.run_picture.specs.declared.report.Past.TheVariants as past_of
use Rattle.run_picture.specs.declared.report.Act.TheVariants as act_of
use Rattle.run_picture.specs.declared.report.Fates.{Fates as FatesData}
use Rattle.run_picture.specs.declared.report.Act.{Act as ActData}
use Rattle.run_picture.specs.declared.report.Run.{Run as RunData}
use Rattle.run_picture.specs.declared.report.Frame.{Frame as FrameData}
use Rattle.run_picture.specs.declared.report.Looper.{Looper as LooperData}
use Rattle.run_picture.specs.declared.report.Report.{Report}
use Rattle.run_picture.specs.declared.report.ParsedReport.TheVariants as parsed
use Rattle.run_picture.specs.declared.line.ReportLine.{ReportLine}
use Rattle.run_picture.specs.declared.line.ReportLine.TheVariants.{Title, Looper, Past, Fates, Act, Frame, Run, End}
use Rattle.run_picture.specs.declared.draft.Part.{Part}
use Rattle.run_picture.specs.declared.draft.Part.TheVariants as part_of
use Rattle.run_picture.specs.declared.draft.Draft.{Draft}
use Rattle.run_picture.specs.Text.{read_frame_lines, read_looper_lines, read_loopers_lines, read_report_lines, report_line_words, report_line_text, FitsReportLine, IsLeastBadOfReport, IsReportText}
use Rattle.run_picture.specs.Lines.{line_of}
use Rattle.run_picture.specs.Progress.{blank, opened, start, closed, shut, framed, with_past, with_act, with_run, after_part, after_open, next, is_report_end, report_of, reading, reports}
use Rattle.line_words.proofs.Wording.{AreWords, words_again, words_taken, no_feed_within}
use Rattle.run_picture.proofs.Taken.{line_taken}
use Rattle.run_picture.proofs.Again.{line_again, line_are}

abbrev AllFits : List ReportLine → Type 0
AllFits ls = AllByRecursion FitsReportLine ls

-- ---- one line

-- the bytes of a line, without its line feed
abbrev bytes_of : ReportLine → List ℕ
bytes_of l = join_with_byte 32 (spelled_words (report_line_words l))

fed : (l : ReportLine) → report_line_text l ≡ bytes_of l ++ 10 ∷ []
unfolding report_line_text
fed l = refl

words_said : (l : ReportLine) (x : List ℕ) (ws : List (List ℕ)) → spelled_words (report_line_words l) ≡ x ∷ ws → FitsReportLine l → line_of (words (bytes_of l)) ≡ Some l
words_said l x ws e fit =
    let all : AreWords (x ∷ ws) = subst AreWords e (line_are l fit) in
    ap (λ v. line_of (words (join_with_byte 32 v))) e ∙ ap line_of (words_again x ws all) ∙ ap line_of (sym e) ∙ line_again l fit

past_words_are : (p : PastData) → (x : List ℕ) × (ws : List (List ℕ)) × (spelled_words (report_line_words (Past p)) ≡ x ∷ ws)
past_words_are (past_of.Dispatch now number handler s) = (_, _, refl)
past_words_are (past_of.Refused handler s place) = (_, _, refl)
past_words_are (past_of.NotPosted token) = (_, _, refl)
past_words_are past_of.NotAllowed = (_, _, refl)
past_words_are (past_of.AlreadyQuit place) = (_, _, refl)

act_words_are : (a : ActData) → (x : List ℕ) × (ws : List (List ℕ)) × (spelled_words (report_line_words (Act a)) ≡ x ∷ ws)
act_words_are (act_of.Idle id) = (_, _, refl)
act_words_are (act_of.Event fd events) = (_, _, refl)
act_words_are (act_of.Paint gauge value) = (_, _, refl)

-- a line has words
some_words : (l : ReportLine) → (x : List ℕ) × (ws : List (List ℕ)) × (spelled_words (report_line_words l) ≡ x ∷ ws)
some_words (Title edition) = (_, _, refl)
some_words (Looper n) = (_, _, refl)
some_words (Past p) = past_words_are p
some_words (Fates f) = (_, _, refl)
some_words (Act a) = act_words_are a
some_words (Frame t) = (_, _, refl)
some_words (Run r) = (_, _, refl)
some_words End = (_, _, refl)

read_again : (l : ReportLine) → FitsReportLine l → line_of (words (bytes_of l)) ≡ Some l
read_again l fit = let w = some_words l in words_said l w.0 w.1 w.2 fit

-- ---- the lines of a draft

-- the loopers that have all their lines
abbrev front_lines : Draft → List ReportLine
front_lines d = Title d.edition ∷ read_loopers_lines 0 d.loopers

-- the looper's line, and its history
abbrev past_lines : ℕ → LooperData → List ReportLine
past_lines n l = Looper n ∷ map Past l.past

-- all up to the looper's journal
abbrev act_lines : ℕ → LooperData → List ReportLine
act_lines n l = past_lines n l ++ Fates l.fates ∷ map Act l.acts

-- the lines that make the draft
abbrev so_far : Part → Draft → List ReportLine
so_far part_of.Start d = []
so_far part_of.Open d = front_lines d
so_far part_of.Past d = front_lines d ++ past_lines (length d.loopers) d.current
so_far part_of.Acts d = front_lines d ++ act_lines (length d.loopers) d.current
so_far part_of.Frames d = front_lines d ++ read_looper_lines (length d.loopers) (framed d.current d.frame)
so_far part_of.End d = front_lines d ++ End ∷ []

-- what is empty in a draft
abbrev IsSound : Part → Draft → Type 0
IsSound part_of.Start d = (d.loopers ≡ []) × (d.current ≡ blank)
IsSound part_of.Open d = d.current ≡ blank
IsSound part_of.Past d = (d.current.acts ≡ []) × (d.current.frames ≡ [])
IsSound part_of.Acts d = d.current.frames ≡ []
IsSound part_of.Frames d = Unit {0}
IsSound part_of.End d = Unit {0}

-- one looper more
loopers_more : (n : ℕ) (ls : List LooperData) (l : LooperData) → read_loopers_lines n (ls ++ l ∷ []) ≡ read_loopers_lines n ls ++ read_looper_lines (n + length ls) l
loopers_more n [] l = let same : n + 0 ≡ n = omega arith in append-nil (read_looper_lines n l) ∙ ap (λ k. read_looper_lines k l) (sym same)
loopers_more n (k ∷ ls) l =
    let same : n + 1 + length ls ≡ n + suc (length ls) = omega arith in
    ap (λ x. read_looper_lines n k ++ x) (loopers_more (n + 1) ls l ∙ ap (λ m. read_loopers_lines (n + 1) ls ++ read_looper_lines m l) same)
    ∙ sym (append_assoc (read_looper_lines n k) (read_loopers_lines (n + 1) ls) (read_looper_lines (n + suc (length ls)) l))

zero_more : (n : ℕ) → 0 + n ≡ n
zero_more n = omega arith

closed_lines : (d : Draft) → front_lines (closed d) ≡ front_lines d ++ read_looper_lines (length d.loopers) d.current
closed_lines d = ap (λ x. Title d.edition ∷ x) (loopers_more 0 d.loopers d.current ∙ ap (λ n. read_loopers_lines 0 d.loopers ++ read_looper_lines n d.current) (zero_more (length d.loopers)))

-- a looper without frames has the lines up to its journal
no_frames : (n : ℕ) (l : LooperData) → l.frames ≡ [] → read_looper_lines n l ≡ act_lines n l
no_frames n l none = ap (λ fs. act_lines n l ++ flat_map read_frame_lines fs) none ∙ append-nil (act_lines n l)

abbrev Grown : List ReportLine → ReportLine → Draft → Type 0
Grown ls l e = (ls ++ l ∷ [] ≡ so_far e.part e) × IsSound e.part e

start_grows : (d e : Draft) (l : ReportLine) → IsSound part_of.Start d → after_part part_of.Start d l ≡ Some e → Grown [] l e
start_grows d e (Title n) sound h =
    let made : Draft = record d { part = part_of.Open; edition = n } in
    subst (Grown [] (Title n)) (same_Some made e h) (ap (λ ls. Title n ∷ read_loopers_lines 0 ls) (sym sound.0), sound.1)
start_grows d e (Looper n) sound h = absurd (none-some e h)
start_grows d e (Past p) sound h = absurd (none-some e h)
start_grows d e (Fates f) sound h = absurd (none-some e h)
start_grows d e (Act a) sound h = absurd (none-some e h)
start_grows d e (Frame t) sound h = absurd (none-some e h)
start_grows d e (Run r) sound h = absurd (none-some e h)
start_grows d e End sound h = absurd (none-some e h)

looper_grows : (d e : Draft) (n : ℕ) → d.current ≡ blank → after_open d (Looper n) ≡ Some e → Grown (front_lines d) (Looper n) e
looper_grows d e n clear h =
    elim (cases_Bool (eqb n (length d.loopers))) [
      | inl same ↦
          let made : Draft = record d { part = part_of.Past } in
          let is : n ≡ length d.loopers = eqb-true n (length d.loopers) same in
          let lines_are : front_lines d ++ Looper n ∷ [] ≡ so_far made.part made =
          ap (λ m. front_lines d ++ Looper m ∷ []) is ∙ ap (λ (l : LooperData). front_lines d ++ Looper (length d.loopers) ∷ map Past l.past) (sym clear) in
          subst (Grown (front_lines d) (Looper n)) (same_Some made e (rw same at h)) (lines_are, (ap (λ (l : LooperData). l.acts) clear, ap (λ (l : LooperData). l.frames) clear))
      | inr other ↦ absurd (none-some e (rw other at h))
    ]

end_grows : (d e : Draft) → after_open d End ≡ Some e → Grown (front_lines d) End e
end_grows d e h = let made : Draft = record d { part = part_of.End } in subst (Grown (front_lines d) End) (same_Some made e h) (refl, tt)

open_grows : (d e : Draft) (l : ReportLine) → d.current ≡ blank → after_part part_of.Open d l ≡ Some e → Grown (front_lines d) l e
open_grows d e (Title n) clear h = absurd (none-some e h)
open_grows d e (Looper n) clear h = looper_grows d e n clear h
open_grows d e (Past p) clear h = absurd (none-some e h)
open_grows d e (Fates f) clear h = absurd (none-some e h)
open_grows d e (Act a) clear h = absurd (none-some e h)
open_grows d e (Frame t) clear h = absurd (none-some e h)
open_grows d e (Run r) clear h = absurd (none-some e h)
open_grows d e End clear h = end_grows d e h

past_grows : (d e : Draft) (l : ReportLine) → d.part ≡ part_of.Past → IsSound part_of.Past d → after_part part_of.Past d l ≡ Some e → Grown (so_far part_of.Past d) l e
past_grows d e (Title n) is sound h = absurd (none-some e h)
past_grows d e (Looper n) is sound h = absurd (none-some e h)
past_grows d e (Past p) is sound h =
    let made : Draft = record d { part = part_of.Past; current = with_past d.current p } in
    let same : record d { current = with_past d.current p } ≡ made = ap (λ q. record d { part = q; current = with_past d.current p }) is in
    let n = length d.loopers in
    let lines_are : so_far part_of.Past d ++ Past p ∷ [] ≡ so_far part_of.Past made =
    append_assoc (front_lines d) (past_lines n d.current) (Past p ∷ []) ∙ ap (λ x. front_lines d ++ Looper n ∷ x) (sym (map-append Past d.current.past (p ∷ []))) in
    subst (Grown (so_far part_of.Past d) (Past p)) (sym same ∙ same_Some (record d { current = with_past d.current p }) e h) (lines_are, sound)
past_grows d e (Fates f) is sound h =
    let made : Draft = record d { part = part_of.Acts; current = record d.current { fates = f } } in
    let n = length d.loopers in
    let lines_are : so_far part_of.Past d ++ Fates f ∷ [] ≡ so_far part_of.Acts made =
    append_assoc (front_lines d) (past_lines n d.current) (Fates f ∷ []) ∙ ap (λ bs. front_lines d ++ (past_lines n d.current ++ Fates f ∷ map Act bs)) (sym sound.0) in
    subst (Grown (so_far part_of.Past d) (Fates f)) (same_Some made e h) (lines_are, sound.1)
past_grows d e (Act a) is sound h = absurd (none-some e h)
past_grows d e (Frame t) is sound h = absurd (none-some e h)
past_grows d e (Run r) is sound h = absurd (none-some e h)
past_grows d e End is sound h = absurd (none-some e h)

acts_grow : (d e : Draft) (l : ReportLine) → d.part ≡ part_of.Acts → IsSound part_of.Acts d → after_part part_of.Acts d l ≡ Some e → Grown (so_far part_of.Acts d) l e
acts_grow d e (Title n) is sound h = absurd (none-some e h)
acts_grow d e (Looper n) is sound h = subst (λ x. Grown x (Looper n) e) (closed_lines d ∙ ap (λ x. front_lines d ++ x) (no_frames (length d.loopers) d.current sound)) (looper_grows (closed d) e n refl h)
acts_grow d e (Past p) is sound h = absurd (none-some e h)
acts_grow d e (Fates f) is sound h = absurd (none-some e h)
acts_grow d e (Act a) is sound h =
    let made : Draft = record d { part = part_of.Acts; current = with_act d.current a } in
    let same : record d { current = with_act d.current a } ≡ made = ap (λ q. record d { part = q; current = with_act d.current a }) is in
    let n = length d.loopers in
    let lines_are : so_far part_of.Acts d ++ Act a ∷ [] ≡ so_far part_of.Acts made =
    append_assoc (front_lines d) (act_lines n d.current) (Act a ∷ []) ∙ ap (λ x. front_lines d ++ x) (append_assoc (past_lines n d.current) (Fates d.current.fates ∷ map Act d.current.acts) (Act a ∷ []))
    ∙ ap (λ x. front_lines d ++ (past_lines n d.current ++ Fates d.current.fates ∷ x)) (sym (map-append Act d.current.acts (a ∷ []))) in
    subst (Grown (so_far part_of.Acts d) (Act a)) (sym same ∙ same_Some (record d { current = with_act d.current a }) e h) (lines_are, sound)
acts_grow d e (Frame t) is sound h =
    let made : Draft = record d { part = part_of.Frames; frame = opened t } in
    let n = length d.loopers in
    let last : read_looper_lines n (framed d.current (opened t)) ≡ act_lines n d.current ++ Frame t ∷ [] =
    ap (λ fs. act_lines n d.current ++ flat_map read_frame_lines (fs ++ opened t ∷ [])) sound in
    let lines_are : so_far part_of.Acts d ++ Frame t ∷ [] ≡ so_far part_of.Frames made =
    append_assoc (front_lines d) (act_lines n d.current) (Frame t ∷ []) ∙ ap (λ x. front_lines d ++ x) (sym last) in
    subst (Grown (so_far part_of.Acts d) (Frame t)) (same_Some made e h) (lines_are, tt)
acts_grow d e (Run r) is sound h = absurd (none-some e h)
acts_grow d e End is sound h = subst (λ x. Grown x End e) (closed_lines d ∙ ap (λ x. front_lines d ++ x) (no_frames (length d.loopers) d.current sound)) (end_grows (closed d) e h)

-- one frame more
frames_more : (n : ℕ) (l : LooperData) (f : FrameData) → read_looper_lines n (framed l f) ≡ read_looper_lines n l ++ read_frame_lines f
frames_more n l f =
    let grown : flat_map read_frame_lines (l.frames ++ f ∷ []) ≡ flat_map read_frame_lines l.frames ++ read_frame_lines f =
    flat_map-append read_frame_lines l.frames (f ∷ []) ∙ ap (λ x. flat_map read_frame_lines l.frames ++ x) (append-nil (read_frame_lines f)) in
    ap (λ x. act_lines n l ++ x) grown ∙ sym (append_assoc (act_lines n l) (flat_map read_frame_lines l.frames) (read_frame_lines f))

shut_lines : (d : Draft) → front_lines (closed (shut 0 d)) ≡ so_far part_of.Frames d
shut_lines d = closed_lines (shut 0 d)

frames_grow : (d e : Draft) (l : ReportLine) → d.part ≡ part_of.Frames → after_part part_of.Frames d l ≡ Some e → Grown (so_far part_of.Frames d) l e
frames_grow d e (Title n) is h = absurd (none-some e h)
frames_grow d e (Looper n) is h = subst (λ x. Grown x (Looper n) e) (shut_lines d) (looper_grows (closed (shut 0 d)) e n refl h)
frames_grow d e (Past p) is h = absurd (none-some e h)
frames_grow d e (Fates f) is h = absurd (none-some e h)
frames_grow d e (Act a) is h = absurd (none-some e h)
frames_grow d e (Frame t) is h =
    let made : Draft = record d { part = part_of.Frames; current = framed d.current d.frame; frame = opened t } in
    let same : shut t d ≡ made = ap (λ q. record d { part = q; current = framed d.current d.frame; frame = opened t }) is in
    let n = length d.loopers in
    let lines_are : so_far part_of.Frames d ++ Frame t ∷ [] ≡ so_far part_of.Frames made =
    append_assoc (front_lines d) (read_looper_lines n (framed d.current d.frame)) (Frame t ∷ []) ∙ ap (λ x. front_lines d ++ x) (sym (frames_more n (framed d.current d.frame) (opened t))) in
    subst (Grown (so_far part_of.Frames d) (Frame t)) (sym same ∙ same_Some (shut t d) e h) (lines_are, tt)
frames_grow d e (Run r) is h =
    let made : Draft = record d { part = part_of.Frames; frame = with_run d.frame r } in
    let same : record d { frame = with_run d.frame r } ≡ made = ap (λ q. record d { part = q; frame = with_run d.frame r }) is in
    let n = length d.loopers in
    let grown : read_looper_lines n (framed d.current d.frame) ++ Run r ∷ [] ≡ read_looper_lines n (framed d.current (with_run d.frame r)) =
    ap (λ x. x ++ Run r ∷ []) (frames_more n d.current d.frame) ∙ append_assoc (read_looper_lines n d.current) (read_frame_lines d.frame) (Run r ∷ [])
    ∙ ap (λ x. read_looper_lines n d.current ++ Frame d.frame.time ∷ x) (sym (map-append Run d.frame.runs (r ∷ []))) ∙ sym (frames_more n d.current (with_run d.frame r)) in
    let lines_are : so_far part_of.Frames d ++ Run r ∷ [] ≡ so_far part_of.Frames made =
    append_assoc (front_lines d) (read_looper_lines n (framed d.current d.frame)) (Run r ∷ []) ∙ ap (λ x. front_lines d ++ x) grown in
    subst (Grown (so_far part_of.Frames d) (Run r)) (sym same ∙ same_Some (record d { frame = with_run d.frame r }) e h) (lines_are, tt)
frames_grow d e End is h = subst (λ x. Grown x End e) (shut_lines d) (end_grows (closed (shut 0 d)) e h)

grows : (p : Part) (d e : Draft) (l : ReportLine) → d.part ≡ p → IsSound p d → after_part p d l ≡ Some e → Grown (so_far p d) l e
grows part_of.Start d e l is sound h = start_grows d e l sound h
grows part_of.Open d e l is sound h = open_grows d e l sound h
grows part_of.Past d e l is sound h = past_grows d e l is sound h
grows part_of.Acts d e l is sound h = acts_grow d e l is sound h
grows part_of.Frames d e l is sound h = frames_grow d e l is h
grows part_of.End d e l is sound h = absurd (none-some e h)

-- after these lines the draft stands so
record Stands (d : Draft) (ls : List ReportLine) : Type 0 where
  pub written : ls ≡ so_far d.part d
  pub sound : IsSound d.part d

stands_on : (d e : Draft) (l : ReportLine) (ls : List ReportLine) → Stands d ls → next d l ≡ Some e → Stands e (ls ++ l ∷ [])
unfolding next
stands_on d e l ls s h =
    let g = subst (λ x. Grown x l e) (sym s.written) (grows d.part d e l refl s.sound h) in
    record { written = g.0; sound = g.1 }

-- ---- each draft begins a report

no_fates : FatesData
no_fates = record { accepted = 0; dispatched = 0; removed = 0; dropped = 0; stranded = 0; queued = 0 }

zero_fits : FitsReportLine (Fates no_fates)
unfolding no_fates
zero_fits =
    let zero : FitsWord (Long 0) = omega arith in
    ((tt, (tt, (zero, (tt, (zero, (tt, (zero, (tt, (zero, (tt, (zero, (tt, (zero, tt))))))))))))), refl)

end_fits : AllFits (End ∷ [])
end_fits = (((tt, tt), tt), tt)

-- the report ends with this looper
ended_by : (d : Draft) (l : LooperData) (ls more : List ReportLine) → ls ++ more ≡ front_lines d ++ read_looper_lines (length d.loopers) l → AllFits more → Continues FitsReportLine read_report_lines ls
ended_by d l ls more e fit =
    let r : Report = record { edition = d.edition; loopers = d.loopers ++ l ∷ [] } in
    (r, more ++ End ∷ [], sym (append_assoc ls more (End ∷ [])) ∙ ap (λ x. x ++ End ∷ []) (e ∙ sym (closed_lines (record d { current = l }))), AllByRecursion-append FitsReportLine more (End ∷ []) fit end_fits)

continues : (p : Part) (d : Draft) → IsSound p d → Continues FitsReportLine read_report_lines (so_far p d)
unfolding no_fates
continues part_of.Start d sound = (record { edition = 1; loopers = [] }, Title 1 ∷ End ∷ [], refl, (((tt, (omega arith, tt)), inl refl), end_fits))
continues part_of.Open d sound = (report_of d, End ∷ [], refl, end_fits)
continues part_of.Past d sound =
    let n = length d.loopers in
    let l : LooperData = record { past = d.current.past; fates = no_fates; acts = []; frames = [] } in
    ended_by d l (so_far part_of.Past d) (Fates no_fates ∷ []) (append_assoc (front_lines d) (past_lines n d.current) (Fates no_fates ∷ []) ∙ ap (λ x. front_lines d ++ x) (sym (append-nil (past_lines n d.current ++ Fates no_fates ∷ [])))) (zero_fits, tt)
continues part_of.Acts d sound =
    ended_by d d.current (so_far part_of.Acts d) [] (append-nil (so_far part_of.Acts d) ∙ ap (λ x. front_lines d ++ x) (sym (no_frames (length d.loopers) d.current sound))) tt
continues part_of.Frames d sound = ended_by d (framed d.current d.frame) (so_far part_of.Frames d) [] (append-nil (so_far part_of.Frames d)) tt
continues part_of.End d sound = (report_of d, [], append-nil (so_far part_of.End d), tt)

-- ---- lines one after the other

-- a draft between two loopers
abbrev between : ℕ → List LooperData → Draft
between e ls = record { part = part_of.Open; edition = e; loopers = ls; current = blank; frame = opened 0 }

-- a draft within a looper
abbrev within : Part → ℕ → List LooperData → LooperData → FrameData → Draft
within p e ls l f = record { part = p; edition = e; loopers = ls; current = l; frame = f }

abbrev holding_past : LooperData → List PastData → LooperData
holding_past l ps = record l { past = ps }

abbrev holding_acts : LooperData → List ActData → LooperData
holding_acts l bs = record l { acts = bs }

abbrev holding_frames : LooperData → List FrameData → LooperData
holding_frames l fs = record l { frames = fs }

past_run : (e : ℕ) (ls : List LooperData) (l : LooperData) (f : FrameData) (before ps : List PastData)
    → run reading (within part_of.Past e ls (holding_past l before) f) (map Past ps) ≡ Some (within part_of.Past e ls (holding_past l (before ++ ps)) f)
unfolding run next
past_run e ls l f before [] = ap (λ x. Some (within part_of.Past e ls (holding_past l x) f)) (sym (append-nil before))
past_run e ls l f before (p ∷ ps) = past_run e ls l f (before ++ p ∷ []) ps ∙ ap (λ x. Some (within part_of.Past e ls (holding_past l x) f)) (append_assoc before (p ∷ []) ps)

acts_run : (e : ℕ) (ls : List LooperData) (l : LooperData) (f : FrameData) (before bs : List ActData)
    → run reading (within part_of.Acts e ls (holding_acts l before) f) (map Act bs) ≡ Some (within part_of.Acts e ls (holding_acts l (before ++ bs)) f)
unfolding run next
acts_run e ls l f before [] = ap (λ x. Some (within part_of.Acts e ls (holding_acts l x) f)) (sym (append-nil before))
acts_run e ls l f before (a ∷ bs) = acts_run e ls l f (before ++ a ∷ []) bs ∙ ap (λ x. Some (within part_of.Acts e ls (holding_acts l x) f)) (append_assoc before (a ∷ []) bs)

abbrev with_runs : ℕ → List RunData → FrameData
with_runs t rs = record { time = t; runs = rs }

runs_run : (e : ℕ) (ls : List LooperData) (l : LooperData) (t : ℕ) (before rs : List RunData)
    → run reading (within part_of.Frames e ls l (with_runs t before)) (map Run rs) ≡ Some (within part_of.Frames e ls l (with_runs t (before ++ rs)))
unfolding run next
runs_run e ls l t before [] = ap (λ x. Some (within part_of.Frames e ls l (with_runs t x))) (sym (append-nil before))
runs_run e ls l t before (r ∷ rs) = runs_run e ls l t (before ++ r ∷ []) rs ∙ ap (λ x. Some (within part_of.Frames e ls l (with_runs t x))) (append_assoc before (r ∷ []) rs)

-- a frame behind a frame
frame_run : (e : ℕ) (ls : List LooperData) (l : LooperData) (before : List FrameData) (f g : FrameData)
    → run reading (within part_of.Frames e ls (holding_frames l before) f) (read_frame_lines g) ≡ Some (within part_of.Frames e ls (holding_frames l (before ++ f ∷ [])) g)
unfolding run next
frame_run e ls l before f g = runs_run e ls (holding_frames l (before ++ f ∷ [])) g.time [] g.runs

-- the first frame of a looper
first_run : (e : ℕ) (ls : List LooperData) (l : LooperData) (f : FrameData)
    → run reading (within part_of.Acts e ls (holding_frames l []) (opened 0)) (read_frame_lines f) ≡ Some (within part_of.Frames e ls (holding_frames l []) f)
unfolding run next
first_run e ls l f = runs_run e ls (holding_frames l []) f.time [] f.runs

-- ---- one looper

-- the lines of a looper up to its journal
front_run : (e : ℕ) (ls : List LooperData) (l : LooperData) → run reading (between e ls) (act_lines (length ls) l) ≡ Some (within part_of.Acts e ls (holding_frames l []) (opened 0))
unfolding run next
front_run e ls l =
    let opens : run reading (between e ls) (Looper (length ls) ∷ []) ≡ Some (within part_of.Past e ls blank (opened 0)) = rw (eq-eqb (length ls) (length ls) refl) refl in
    let held : LooperData = record { past = l.past; fates = l.fates; acts = []; frames = [] } in
    let first : run reading (between e ls) (past_lines (length ls) l) ≡ Some (within part_of.Past e ls (holding_past blank l.past) (opened 0)) =
    run_on reading (between e ls) (within part_of.Past e ls blank (opened 0)) (within part_of.Past e ls (holding_past blank l.past) (opened 0)) (Looper (length ls) ∷ []) (map Past l.past) opens (past_run e ls blank (opened 0) [] l.past) in
    let second : run reading (within part_of.Past e ls (holding_past blank l.past) (opened 0)) (Fates l.fates ∷ map Act l.acts) ≡ Some (within part_of.Acts e ls (holding_frames l []) (opened 0)) =
    acts_run e ls held (opened 0) [] l.acts in
    run_on reading (between e ls) (within part_of.Past e ls (holding_past blank l.past) (opened 0)) (within part_of.Acts e ls (holding_frames l []) (opened 0)) (past_lines (length ls) l) (Fates l.fates ∷ map Act l.acts) first second

-- a line that closes the looper before it
abbrev Closes : ReportLine → Type 0
Closes (Title n) = ⊥
Closes (Looper n) = Unit {0}
Closes (Past p) = ⊥
Closes (Fates f) = ⊥
Closes (Act a) = ⊥
Closes (Frame t) = ⊥
Closes (Run r) = ⊥
Closes End = Unit {0}

acts_close : (e : ℕ) (ls : List LooperData) (l : LooperData) (x : ReportLine) → Closes x → next (within part_of.Acts e ls l (opened 0)) x ≡ next (between e (ls ++ l ∷ [])) x
unfolding next
acts_close e ls l (Title n) c = absurd c
acts_close e ls l (Looper n) c = refl
acts_close e ls l (Past p) c = absurd c
acts_close e ls l (Fates f) c = absurd c
acts_close e ls l (Act a) c = absurd c
acts_close e ls l (Frame t) c = absurd c
acts_close e ls l (Run r) c = absurd c
acts_close e ls l End c = refl

frames_close : (e : ℕ) (ls : List LooperData) (l : LooperData) (f : FrameData) (x : ReportLine) → Closes x → next (within part_of.Frames e ls l f) x ≡ next (between e (ls ++ framed l f ∷ [])) x
unfolding next
frames_close e ls l f (Title n) c = absurd c
frames_close e ls l f (Looper n) c = refl
frames_close e ls l f (Past p) c = absurd c
frames_close e ls l f (Fates g) c = absurd c
frames_close e ls l f (Act a) c = absurd c
frames_close e ls l f (Frame t) c = absurd c
frames_close e ls l f (Run r) c = absurd c
frames_close e ls l f End c = refl

same_next : (c d : Draft) (x : ReportLine) (rest : List ReportLine) → next c x ≡ next d x → run reading c (x ∷ rest) ≡ run reading d (x ∷ rest)
unfolding run
same_next c d x rest e = ap (option_and_then (λ y. run reading y rest)) e

-- the frames that are left, and what closes the looper
frames_run : (e : ℕ) (ls : List LooperData) (l : LooperData) (before : List FrameData) (f : FrameData) (fs : List FrameData) (x : ReportLine) (rest : List ReportLine) (d : Draft) → Closes x
    → run reading (between e (ls ++ holding_frames l (before ++ f ∷ fs) ∷ [])) (x ∷ rest) ≡ Some d → run reading (within part_of.Frames e ls (holding_frames l before) f) (flat_map read_frame_lines fs ++ x ∷ rest) ≡ Some d
frames_run e ls l before f [] x rest d c h =
    same_next (within part_of.Frames e ls (holding_frames l before) f) (between e (ls ++ holding_frames l (before ++ f ∷ []) ∷ [])) x rest (frames_close e ls (holding_frames l before) f x c) ∙ h
frames_run e ls l before f (g ∷ fs) x rest d c h =
    let later = frames_run e ls l (before ++ f ∷ []) g fs x rest d c (ap (λ gs. run reading (between e (ls ++ holding_frames l gs ∷ [])) (x ∷ rest)) (append_assoc before (f ∷ []) (g ∷ fs)) ∙ h) in
    ap (run reading (within part_of.Frames e ls (holding_frames l before) f)) (append_assoc (read_frame_lines g) (flat_map read_frame_lines fs) (x ∷ rest))
    ∙ run_on reading (within part_of.Frames e ls (holding_frames l before) f) (within part_of.Frames e ls (holding_frames l (before ++ f ∷ [])) g) d (read_frame_lines g) (flat_map read_frame_lines fs ++ x ∷ rest) (frame_run e ls l before f g) later

-- all frames, and what closes the looper
rest_run : (e : ℕ) (ls : List LooperData) (l : LooperData) (fs : List FrameData) (x : ReportLine) (rest : List ReportLine) (d : Draft) → Closes x
    → run reading (between e (ls ++ holding_frames l fs ∷ [])) (x ∷ rest) ≡ Some d → run reading (within part_of.Acts e ls (holding_frames l []) (opened 0)) (flat_map read_frame_lines fs ++ x ∷ rest) ≡ Some d
rest_run e ls l [] x rest d c h =
    same_next (within part_of.Acts e ls (holding_frames l []) (opened 0)) (between e (ls ++ holding_frames l [] ∷ [])) x rest (acts_close e ls (holding_frames l []) x c) ∙ h
rest_run e ls l (f ∷ fs) x rest d c h =
    ap (run reading (within part_of.Acts e ls (holding_frames l []) (opened 0))) (append_assoc (read_frame_lines f) (flat_map read_frame_lines fs) (x ∷ rest))
    ∙ run_on reading (within part_of.Acts e ls (holding_frames l []) (opened 0)) (within part_of.Frames e ls (holding_frames l []) f) d (read_frame_lines f) (flat_map read_frame_lines fs ++ x ∷ rest) (first_run e ls l f) (frames_run e ls l [] f fs x rest d c h)

looper_run : (e : ℕ) (ls : List LooperData) (l : LooperData) (x : ReportLine) (rest : List ReportLine) (d : Draft) → Closes x
    → run reading (between e (ls ++ l ∷ [])) (x ∷ rest) ≡ Some d → run reading (between e ls) (read_looper_lines (length ls) l ++ x ∷ rest) ≡ Some d
looper_run e ls l x rest d c h =
    let n = length ls in
    let cut : read_looper_lines n l ++ x ∷ rest ≡ act_lines n l ++ (flat_map read_frame_lines l.frames ++ x ∷ rest) =
    append_assoc (act_lines n l) (flat_map read_frame_lines l.frames) (x ∷ rest) in
    ap (run reading (between e ls)) cut
    ∙ run_on reading (between e ls) (within part_of.Acts e ls (holding_frames l []) (opened 0)) d (act_lines n l) (flat_map read_frame_lines l.frames ++ x ∷ rest) (front_run e ls l) (rest_run e ls l l.frames x rest d c h)

-- ---- all loopers

-- what follows a looper closes it
closing : (n : ℕ) (ms : List LooperData) (x : ReportLine) (rest : List ReportLine) → Closes x → (y : ReportLine) × (more : List ReportLine) × (read_loopers_lines n ms ++ x ∷ rest ≡ y ∷ more) × Closes y
closing n [] x rest c = (x, rest, refl, c)
closing n (m ∷ ms) x rest c = (Looper n, _, refl, tt)

loopers_run : (e : ℕ) (ls ms : List LooperData) (x : ReportLine) (rest : List ReportLine) (d : Draft) → Closes x
    → run reading (between e (ls ++ ms)) (x ∷ rest) ≡ Some d → run reading (between e ls) (read_loopers_lines (length ls) ms ++ x ∷ rest) ≡ Some d
loopers_run e ls [] x rest d c h = ap (λ ks. run reading (between e ks) (x ∷ rest)) (sym (append-nil ls)) ∙ h
loopers_run e ls (m ∷ ms) x rest d c h =
    let n = length ls in
    let count : length (ls ++ m ∷ []) ≡ n + 1 = omega (arith, length-append ls (m ∷ [])) in
    let later : run reading (between e (ls ++ m ∷ [])) (read_loopers_lines (n + 1) ms ++ x ∷ rest) ≡ Some d =
    ap (λ k. run reading (between e (ls ++ m ∷ [])) (read_loopers_lines k ms ++ x ∷ rest)) (sym count) ∙ loopers_run e (ls ++ m ∷ []) ms x rest d c (ap (λ ks. run reading (between e ks) (x ∷ rest)) (append_assoc ls (m ∷ []) ms) ∙ h) in
    let y = closing (n + 1) ms x rest c in
    let one : run reading (between e ls) (read_looper_lines n m ++ y.0 ∷ y.1) ≡ Some d = looper_run e ls m y.0 y.1 d y.3 (ap (run reading (between e (ls ++ m ∷ []))) (sym y.2) ∙ later) in
    ap (run reading (between e ls)) (append_assoc (read_looper_lines n m) (read_loopers_lines (n + 1) ms) (x ∷ rest) ∙ ap (λ z. read_looper_lines n m ++ z) y.2) ∙ one

abbrev finished : Report → Draft
finished r = record { part = part_of.End; edition = r.edition; loopers = r.loopers; current = blank; frame = opened 0 }

lines_run : (r : Report) → run reading start (read_report_lines r) ≡ Some (finished r)
unfolding run next
lines_run r = loopers_run r.edition [] r.loopers End [] (finished r) tt refl

-- ---- the whole text

ending : (q : Part) (d : Draft) (ls : List ReportLine) → is_report_end q ≡ true → ls ≡ so_far q d → ls ≡ read_report_lines (report_of d)
ending part_of.Start d ls e w = absurd cc
ending part_of.Open d ls e w = absurd cc
ending part_of.Past d ls e w = absurd cc
ending part_of.Acts d ls e w = absurd cc
ending part_of.Frames d ls e w = absurd cc
ending part_of.End d ls e w = w

pub nothing_said : line_of (words []) ≡ None
unfolding line_of spelled_number
nothing_said = refl

form : IsForm reading bytes_of report_line_text read_report_lines FitsReportLine Stands
form = record {
  fed = fed;
  free = λ l fit. no_feed_within (spelled_words (report_line_words l)) (line_are l fit);
  again = read_again;
  taken = λ bytes l is. (let t = line_taken (words bytes) l is in (t.0, words_taken bytes (spelled_words (report_line_words l)) t.1));
  empty = nothing_said;
  leads = λ t. (finished t, lines_run t, refl, refl);
  starts = record { written = refl; sound = (refl, refl) };
  more = stands_on;
  ends = λ d ls s e. ending d.part d ls e s.written;
  continues = λ d ls s. subst (Continues FitsReportLine read_report_lines) (sym s.written) (continues d.part d s.sound);
}

-- ---- where a text stops

pub text_ends : (k : ℕ) (d : Draft) (bytes : List ℕ) → (eqb (length bytes) 0 && is_report_end d.part) ≡ true → read_from reports k d (bytes ∷ []) ≡ answer (report_of d)
text_ends k d bytes ends = plain_ended form k d bytes ends

pub text_stops : (k : ℕ) (d : Draft) (bytes : List ℕ) → (eqb (length bytes) 0 && is_report_end d.part) ≡ false → read_from reports k d (bytes ∷ []) ≡ failed k tt
text_stops k d bytes other = plain_stopped form k d bytes other

-- ---- what is answered

pub found_in : (b : List ℕ) (s : Report) → read_text reports b ≡ Ok s → Finds parsed.Ok IsReportText (parsed.Ok s) b
found_in b s e t is = let same : s ≡ t = cc in text_found form b t (e ∙ ap answer same)

pub found_only : (b : List ℕ) (s : Report) → read_text reports b ≡ Ok s → FindsAll parsed.Ok parsed.NoMemory IsReportText (parsed.Ok s) b
found_only b s e t is = inl (ap parsed.Ok (text_only form b s t e is))

pub found_never : (b : List ℕ) (k : ℕ) → read_text reports b ≡ Err (k, tt) → FindsAll parsed.Ok parsed.NoMemory IsReportText (parsed.Bad k) b
found_never b k e t is = absurd (text_never form b k tt t e is)

pub refused_as : (b : List ℕ) (k : ℕ) → read_text reports b ≡ Err (k, tt) → Names parsed.Bad IsLeastBadOfReport (parsed.Bad k) b
refused_as b k e j is = let same : k ≡ j = cc in subst (IsLeastBadOfReport b) same (text_bad form b k tt e)
