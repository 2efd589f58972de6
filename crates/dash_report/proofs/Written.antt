-- What writes in a row have written.
use Rattle.std.proofs.Common.{◌≡◌, ◌+◌, ◌<◌, ℕ, zero, suc, List, [], ◌∷◌, ◌++◌, length, take, get_or, refl, sym, ap, ◌∙◌, append_assoc, append-nil, arith}
use Rattle.std.specs.Prelude.{codes, count_by, min}
use Rattle.std.specs.List.{flat_map}
use Rattle.std.specs.Fmt.{decimal}
use Rattle.std.proofs.lemmas.Grind.{flat_map-append}
use Rattle.std.proofs.Math.Seq.{take-length}
use Rattle.loop_model.specs.declared.entry.Entry.{Entry}
use Rattle.loop_model.specs.declared.fate.Fate.{Fate}
use Rattle.loop_model.specs.declared.journal.Act.{Act}
use Rattle.loop_model.specs.declared.journal.Journal.{Journal}
use Rattle.loop_model.specs.declared.record.QueueRecord.{QueueRecord}
use Rattle.loop_model.specs.declared.segment.Segment.{Segment}
use Rattle.loop_model.specs.Chain.{entries_of}
use Rattle.loop_model.specs.Fates.{fates, is_dispatched, is_removed, is_dropped, is_stranded, is_queued}
use Rattle.fate_ledger.proofs.Parts.{entries_taken}
use Rattle.frame_phases.specs.declared.entry.FrameEntry.{FrameEntry}
use Rattle.frame_phases.specs.declared.entry.FrameRecord.{FrameRecord}
use Rattle.run_model.specs.Planned.{history_of}
use Rattle.run_model.specs.Text.{LineWords, history_lines, fates_line, act_lines, frame_lines, looper_lines, loopers_lines, line_text}
use Rattle.run_model.specs.Summary.{accepted_in, dispatched_in, frames_in, paints_in, summary, summary_lines}
use Rattle.run_model.specs.declared.report.Report.{Report}

-- the line of the fates, by its numbers
pub fates_written : (fs : List Fate) (a d r x s q : ℕ) → a ≡ length fs → d ≡ count_by is_dispatched fs → r ≡ count_by is_removed fs → x ≡ count_by is_dropped fs → s ≡ count_by is_stranded fs → q ≡ count_by is_queued fs
    → line_text (codes "fates" ∷ codes "accepted" ∷ decimal a ∷ codes "dispatched" ∷ decimal d ∷ codes "removed" ∷ decimal r ∷ codes "dropped" ∷ decimal x ∷ codes "stranded" ∷ decimal s ∷ codes "queued" ∷ decimal q ∷ [])
    ≡ line_text (fates_line fs)
fates_written fs a d r x s q ha hd hr hx hs hq = rw (ha, hd, hr, hx, hs, hq) refl

regrouped : (a b c d e : List ℕ) → ((a ++ b) ++ (c ++ d)) ++ e ≡ a ++ (b ++ (c ++ (d ++ e)))
regrouped a b c d e = append_assoc (a ++ b) (c ++ d) e ∙ (append_assoc a b ((c ++ d) ++ e) ∙ ap (λ l. a ++ (b ++ l)) (append_assoc c d e))

-- the entries of the first parts with one part more, which is this one
pub one_part_more : (ps : List Segment) (i : ℕ) (p : Segment) → i < length ps → p ≡ get_or ps i p → entries_of (take (i + 1) ps) ≡ entries_of (take i ps) ++ p.entries
one_part_more ps i p lt is = entries_taken ps i p lt ∙ ap (λ (q : Segment). entries_of (take i ps) ++ q.entries) (sym is)

-- the entries of as many parts as there are
pub all_parts : (ps : List Segment) (i : ℕ) → i ≡ length ps → entries_of (take i ps) ≡ entries_of ps
all_parts ps i all = ap (λ n. entries_of (take n ps)) all ∙ ap entries_of (take-length ps)

-- what more entries have written
pub entries_written : (f : Entry → List LineWords) (out : List ℕ) (es more : List Entry)
    → (out ++ flat_map line_text (flat_map f es)) ++ flat_map line_text (flat_map f more) ≡ out ++ flat_map line_text (flat_map f (es ++ more))
entries_written f out es more =
    append_assoc out (flat_map line_text (flat_map f es)) (flat_map line_text (flat_map f more))
    ∙ ap (λ l. out ++ l) (sym (flat_map-append line_text (flat_map f es) (flat_map f more)) ∙ ap (flat_map line_text) (sym (flat_map-append f es more)))

-- a looper's lines, part by part
looper_joined : (q : QueueRecord) (j : Journal) (f : FrameRecord)
    → flat_map line_text (looper_lines q j f) ≡ line_text (codes "looper" ∷ decimal q.looper ∷ []) ++ (flat_map line_text (history_lines (history_of q)) ++ (line_text (fates_line (fates (history_of q))) ++ (flat_map line_text (flat_map act_lines j.acts) ++ flat_map line_text (frame_lines f.entries))))
looper_joined q j f =
    let first = codes "looper" ∷ decimal q.looper ∷ [] in
    let history = history_lines (history_of q) in
    let counts = fates_line (fates (history_of q)) in
    let acts = flat_map act_lines j.acts in
    let frames = frame_lines f.entries in
    flat_map-append line_text ((first ∷ history) ++ (counts ∷ acts)) frames ∙ (ap (λ l. l ++ flat_map line_text frames) (flat_map-append line_text (first ∷ history) (counts ∷ acts)) ∙ regrouped (line_text first) (flat_map line_text history) (line_text counts) (flat_map line_text acts) (flat_map line_text frames))

five_written : (out a b c d e x1 x2 x3 x4 x5 : List ℕ) → x1 ≡ out ++ a → x2 ≡ x1 ++ b → x3 ≡ x2 ++ c → x4 ≡ x3 ++ d → x5 ≡ x4 ++ e
    → x5 ≡ out ++ (a ++ (b ++ (c ++ (d ++ e))))
five_written out a b c d e x1 x2 x3 x4 x5 p1 p2 p3 p4 p5 =
    p5 ∙ (ap (λ l. l ++ e) (p4 ∙ ap (λ l. l ++ d) (p3 ∙ ap (λ l. l ++ c) (p2 ∙ ap (λ l. l ++ b) p1))) ∙ simp append_assoc refl)

-- what the writing of a looper's parts in a row has written
pub looper_written : (q : QueueRecord) (j : Journal) (f : FrameRecord) (es : List Entry) (acts : List Act) (frames : List FrameEntry) (out x1 x2 x3 x4 x5 : List ℕ)
    → es ≡ history_of q → acts ≡ j.acts → frames ≡ f.entries
    → x1 ≡ out ++ line_text (codes "looper" ∷ decimal q.looper ∷ []) → x2 ≡ x1 ++ flat_map line_text (history_lines es) → x3 ≡ x2 ++ line_text (fates_line (fates es))
    → x4 ≡ x3 ++ flat_map line_text (flat_map act_lines acts) → x5 ≡ x4 ++ flat_map line_text (frame_lines frames)
    → x5 ≡ out ++ flat_map line_text (looper_lines q j f)
looper_written q j f es acts frames out x1 x2 x3 x4 x5 e a s p1 p2 p3 p4 p5 =
    five_written out (line_text (codes "looper" ∷ decimal q.looper ∷ [])) (flat_map line_text (history_lines (history_of q))) (line_text (fates_line (fates (history_of q)))) (flat_map line_text (flat_map act_lines j.acts)) (flat_map line_text (frame_lines f.entries)) x1 x2 x3 x4 x5 p1
    (p2 ∙ ap (λ l. x1 ++ flat_map line_text (history_lines l)) e) (p3 ∙ ap (λ l. x2 ++ line_text (fates_line (fates l))) e) (p4 ∙ ap (λ l. x3 ++ flat_map line_text (flat_map act_lines l)) a) (p5 ∙ ap (λ l. x4 ++ flat_map line_text (frame_lines l)) s)
    ∙ ap (λ l. out ++ l) (sym (looper_joined q j f))

-- the lines of one looper more
pub loopers_more : (qs : List QueueRecord) (js : List Journal) (fs : List FrameRecord) (i : ℕ) (q : QueueRecord) (j : Journal) (f : FrameRecord) → i < length qs → i < length js → i < length fs
    → flat_map line_text (loopers_lines (take (i + 1) qs) (take (i + 1) js) (take (i + 1) fs))
    ≡ flat_map line_text (loopers_lines (take i qs) (take i js) (take i fs)) ++ flat_map line_text (looper_lines (get_or qs i q) (get_or js i j) (get_or fs i f))
loopers_more [] js fs i q j f hq hj hf = absurd (omega (arith, hq))
loopers_more (x ∷ qs) [] fs i q j f hq hj hf = absurd (omega (arith, hj))
loopers_more (x ∷ qs) (y ∷ js) [] i q j f hq hj hf = absurd (omega (arith, hf))
loopers_more (x ∷ qs) (y ∷ js) (z ∷ fs) zero q j f hq hj hf = simp (append-nil, flat_map-append) refl
loopers_more (x ∷ qs) (y ∷ js) (z ∷ fs) (suc i) q j f hq hj hf =
    let rest = loopers_more qs js fs i q j f (omega (arith, hq)) (omega (arith, hj)) (omega (arith, hf)) in
    let one : suc i + 1 ≡ suc (i + 1) = omega arith in
    let first = looper_lines x y z in
    let past = loopers_lines (take i qs) (take i js) (take i fs) in
    let next = flat_map line_text (looper_lines (get_or qs i q) (get_or js i j) (get_or fs i f)) in
    rw one (flat_map-append line_text first (loopers_lines (take (i + 1) qs) (take (i + 1) js) (take (i + 1) fs))
    ∙ (ap (λ l. flat_map line_text first ++ l) rest
    ∙ (sym (append_assoc (flat_map line_text first) (flat_map line_text past) next)
    ∙ ap (λ l. l ++ next) (sym (flat_map-append line_text first past)))))

-- what has been written once one looper more is
pub loopers_written : (qs : List QueueRecord) (js : List Journal) (fs : List FrameRecord) (m n i : ℕ) (q : QueueRecord) (j : Journal) (f : FrameRecord) (out x y : List ℕ)
    → m ≡ min (length qs) (length js) → n ≡ min m (length fs) → i < n → q ≡ get_or qs i q → j ≡ get_or js i j → f ≡ get_or fs i f
    → x ≡ out ++ flat_map line_text (loopers_lines (take i qs) (take i js) (take i fs)) → y ≡ x ++ flat_map line_text (looper_lines q j f)
    → y ≡ out ++ flat_map line_text (loopers_lines (take (i + 1) qs) (take (i + 1) js) (take (i + 1) fs))
loopers_written qs js fs m n i q j f out x y hm hn hi hq hj hf hx hy =
    let past = flat_map line_text (loopers_lines (take i qs) (take i js) (take i fs)) in
    let more = loopers_more qs js fs i q j f (omega (arith, hm, hn, hi)) (omega (arith, hm, hn, hi)) (omega (arith, hm, hn, hi)) in
    hy ∙ (ap (λ l. l ++ flat_map line_text (looper_lines q j f)) hx
    ∙ (append_assoc out past (flat_map line_text (looper_lines q j f))
    ∙ ap (λ l. out ++ l) (ap (λ l. past ++ flat_map line_text l) (ap (λ l. looper_lines l j f) hq ∙ (ap (λ l. looper_lines (get_or qs i q) l f) hj ∙ ap (λ l. looper_lines (get_or qs i q) (get_or js i j) l) hf)) ∙ sym more)))

-- the lines of as many loopers as each list has are those of all
pub all_loopers : (n : ℕ) (qs : List QueueRecord) (js : List Journal) (fs : List FrameRecord) → n ≡ min (min (length qs) (length js)) (length fs)
    → loopers_lines (take n qs) (take n js) (take n fs) ≡ loopers_lines qs js fs
all_loopers zero [] js fs h = refl
all_loopers zero (x ∷ qs) [] fs h = refl
all_loopers zero (x ∷ qs) (y ∷ js) [] h = refl
all_loopers zero (x ∷ qs) (y ∷ js) (z ∷ fs) h = absurd (omega (arith, h))
all_loopers (suc n) [] js fs h = absurd (omega (arith, h))
all_loopers (suc n) (x ∷ qs) [] fs h = absurd (omega (arith, h))
all_loopers (suc n) (x ∷ qs) (y ∷ js) [] h = absurd (omega (arith, h))
all_loopers (suc n) (x ∷ qs) (y ∷ js) (z ∷ fs) h = ap (λ l. looper_lines x y z ++ l) (all_loopers n qs js fs (omega (arith, h)))

-- what the writing of a summary's lines in a row has written
pub summary_written : (report : Report) (n a d f p : ℕ) (out x1 x2 x3 x4 x5 : List ℕ) → a ≡ accepted_in report.queues → d ≡ dispatched_in report.queues → f ≡ frames_in report.frames → p ≡ paints_in report.journals
    → out ≡ [] → x1 ≡ out ++ line_text (codes "summary" ∷ decimal n ∷ []) → x2 ≡ x1 ++ line_text (codes "accepted" ∷ decimal a ∷ []) → x3 ≡ x2 ++ line_text (codes "dispatched" ∷ decimal d ∷ [])
    → x4 ≡ x3 ++ line_text (codes "frames" ∷ decimal f ∷ []) → x5 ≡ x4 ++ line_text (codes "paints" ∷ decimal p ∷ [])
    → x5 ≡ summary n report
unfolding summary summary_lines
summary_written report n a d f p out x1 x2 x3 x4 x5 ha hd hf hp ho h1 h2 h3 h4 h5 =
    let line : List ℕ → ℕ → List ℕ = λ word count. line_text (word ∷ decimal count ∷ []) in
    let last = line (codes "paints") (paints_in report.journals) in
    five_written [] (line (codes "summary") n) (line (codes "accepted") (accepted_in report.queues)) (line (codes "dispatched") (dispatched_in report.queues)) (line (codes "frames") (frames_in report.frames)) last x1 x2 x3 x4 x5
    (h1 ∙ ap (λ l. l ++ line (codes "summary") n) ho) (h2 ∙ ap (λ k. x1 ++ line (codes "accepted") k) ha) (h3 ∙ ap (λ k. x2 ++ line (codes "dispatched") k) hd) (h4 ∙ ap (λ k. x3 ++ line (codes "frames") k) hf) (h5 ∙ ap (λ k. x4 ++ line (codes "paints") k) hp)
    ∙ ap (λ l. line (codes "summary") n ++ (line (codes "accepted") (accepted_in report.queues) ++ (line (codes "dispatched") (dispatched_in report.queues) ++ (line (codes "frames") (frames_in report.frames) ++ l)))) (sym (append-nil last))
