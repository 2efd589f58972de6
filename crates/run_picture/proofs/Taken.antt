-- What is read of the words of a line is a line of these words.
use Rattle.std.proofs.Common.{◌≡◌, ◌<◌, ◌+◌, ◌^◌, ℕ, cond, eqb, List, [], ◌∷◌, ◌++◌, Option, Some, None, refl, sym, ap, subst, ◌∙◌, inl, inr}
use Rattle.std.specs.Prelude.{codes}
use Rattle.std.specs.List.{AllByRecursion}
use Rattle.std.specs.Option.{option_map}
use Rattle.std.specs.Str.{bytes_eq}
use Rattle.std.specs.Fmt.{decimal}
use Rattle.std.proofs.lemmas.Bool.{cases_Bool, eqb-true}
use Rattle.std.proofs.lemmas.Option.{same_Some, none-some}
use Rattle.std.proofs.lemmas.List.{append-nil}
use Rattle.std.proofs.lemmas.Slice.Eq.{bytes_eq-Decides}
use Rattle.loop_model.proofs.Sorting.{AllByRecursion-append}
use Rattle.line_words.specs.Words.{spelled_number}
use Rattle.line_words.specs.Written.{IsShort, IsLong, WrittenWord, Fixed, Short, Long, FitsWord, spelled_words}
use Rattle.line_words.specs.Taking as taking
use Rattle.line_words.specs.Taking.{Rest, and_then, below, by_word, whole}
use Rattle.line_words.proofs.Spelling.{number_taken}
use Rattle.line_words.proofs.Wording.{spelled_on}
use Rattle.line_words.proofs.Taken.{parted, read_parted, word_parted, Spells, below_taken, number_small, rows_hold, long_taken, short_taken, counted_taken}
use Rattle.run_picture.specs.declared.report.Subject.{Subject}
use Rattle.run_picture.specs.declared.report.Subject.TheVariants.{What, Callback}
use Rattle.run_picture.specs.declared.report.Past.TheVariants as past_of
use Rattle.run_picture.specs.declared.report.Fates.{Fates as FatesData}
use Rattle.run_picture.specs.declared.report.Act.TheVariants as act_of
use Rattle.run_picture.specs.declared.report.Run.{Run as RunData}
use Rattle.run_picture.specs.declared.line.ReportLine.{ReportLine}
use Rattle.run_picture.specs.declared.line.ReportLine.TheVariants.{Title, Looper, Past, Fates, Act, Frame, Run, End}
use Rattle.run_picture.specs.Reading as reading
use Rattle.run_picture.specs.Lines as lines
use Rattle.run_picture.specs.Lines.{adds_up}
use Rattle.run_picture.specs.Text.{IsConsistent, FitsReportLine, report_line_words, subject_words, fates_words}

-- ---- messages

-- a counted number was read, and the rest followed by it
counted_then : {C : Type 0} (P : Type 0) (spelling : List ℕ) (ws : Rest) (f : ℕ → Rest → Option C) (y : C) → and_then (taking.counted spelling ws) f ≡ Some y
    → ((n : ℕ) (rest : Rest) → IsLong n → ws ≡ spelling ∷ decimal n ∷ rest → f n rest ≡ Some y → P) → P
counted_then P spelling ws f y e go =
    let p = parted (taking.counted spelling ws) f y e in
    let t = counted_taken spelling ws p.0 p.1 in
    go p.0.0 p.0.1 t.0 t.1 p.2

abbrev SubjectTaken : Rest → Subject × Rest → Type 0
SubjectTaken ws y = Spells subject_words ws y

what_taken : (n : ℕ) (o : Option ℕ) (s : Subject) → below (2 ^ 32) n ≡ o → option_map What o ≡ Some s → AllByRecursion FitsWord (subject_words s) × (decimal n ∷ [] ≡ spelled_words (subject_words s))
what_taken n None s is e = absurd (none-some s e)
what_taken n (Some m) s is e =
    let b = below_taken (2 ^ 32) n m is in
    let fit : m < 2 ^ 32 = subst (λ x. x < 2 ^ 32) b.1 b.0 in
    subst (λ x. AllByRecursion FitsWord (subject_words x) × (decimal n ∷ [] ≡ spelled_words (subject_words x))) (same_Some (What m) s e) ((fit, tt), ap (λ x. decimal x ∷ []) b.1)

callback_taken : (w : List ℕ) (rest : Rest) (y : Subject × Rest) → reading.callback w rest ≡ Some y → SubjectTaken (w ∷ rest) y
callback_taken w rest y e =
    elim (cases_Bool (bytes_eq w (codes "callback"))) [
      | inl same ↦
          let made : and_then (taking.long rest) (λ c more. Some (Callback c, more)) ≡ Some y = rw same at e in
          let p = parted (taking.long rest) _ y made in
          let t = long_taken rest p.0 p.1 in
          let is : w ≡ codes "callback" = (bytes_eq-Decides w (codes "callback")).0 same in
          subst (SubjectTaken (w ∷ rest)) (same_Some (Callback p.0.0, p.0.1) y p.2) ((tt, (t.0, tt)), ap (λ v. v ∷ rest) is ∙ ap (λ r. codes "callback" ∷ r) t.1)
      | inr other ↦ absurd (none-some y (rw other at e))
    ]

subject_by_taken : (w : List ℕ) (o : Option ℕ) (rest : Rest) (y : Subject × Rest) → spelled_number w ≡ o → reading.subject_by w o rest ≡ Some y → SubjectTaken (w ∷ rest) y
subject_by_taken w None rest y is e = callback_taken w rest y e
subject_by_taken w (Some n) rest y is e =
    let q = read_parted (option_map What (below (2 ^ 32) n)) rest y e in
    let t = what_taken n (below (2 ^ 32) n) y.0 refl q.0 in
    (t.0, ap (λ v. v ∷ rest) (number_taken w n is) ∙ ap (λ v. v ++ rest) t.1 ∙ ap (λ r. spelled_words (subject_words y.0) ++ r) q.1)

subject_taken : (ws : Rest) (y : Subject × Rest) → reading.subject ws ≡ Some y → SubjectTaken ws y
unfolding reading.subject
subject_taken ws y e =
    let p = parted (taking.word ws) _ y e in
    let t = subject_by_taken p.0.0 (spelled_number p.0.0) p.0.1 y refl p.2 in
    (t.0, word_parted ws p.0 p.1 ∙ t.1)

-- ---- lines

abbrev LineTaken : Rest → ReportLine → Type 0
LineTaken ws l = FitsReportLine l × (ws ≡ spelled_words (report_line_words l))

-- nothing is left behind the words of a line
whole_taken : (ws : Rest) (made : ReportLine) (rest : Rest) (l : ReportLine) → whole made rest ≡ Some l → FitsReportLine made → ws ≡ spelled_words (report_line_words made) ++ rest → LineTaken ws l
whole_taken ws made [] l e fit words = subst (LineTaken ws) (same_Some made l e) (fit, words ∙ append-nil (spelled_words (report_line_words made)))
whole_taken ws made (w ∷ rest) l e fit words = absurd (none-some l e)

-- what stands behind this word is that of a line of both
abbrev Takes : List ℕ → (Rest → Option ReportLine) → Type 0
Takes w by = (rest : Rest) (l : ReportLine) → by rest ≡ Some l → LineTaken (w ∷ rest) l

-- a line of these words, and nothing behind them
said_taken : (ws : Rest) (made : ReportLine) (rest : Rest) (l : ReportLine) (said : List WrittenWord) → report_line_words made ≡ said → IsConsistent made → whole made rest ≡ Some l → AllByRecursion FitsWord said
    → ws ≡ spelled_words said ++ rest → LineTaken ws l
said_taken ws made rest l said is meant e fit words =
    whole_taken ws made rest l e (subst (AllByRecursion FitsWord) (sym is) fit, meant) (words ∙ ap (λ v. spelled_words v ++ rest) (sym is))

alone_taken : (w : List ℕ) (made : ReportLine) → report_line_words made ≡ Fixed w ∷ [] → IsConsistent made → Takes w (whole made)
alone_taken w made is meant rest l e = said_taken (w ∷ rest) made rest l (Fixed w ∷ []) is meant e (tt, tt) refl

one_taken : (w : List ℕ) (make : ℕ → ReportLine) → ((n : ℕ) → report_line_words (make n) ≡ Fixed w ∷ Long n ∷ []) → ((n : ℕ) → IsConsistent (make n)) → Takes w (lines.one_long make)
one_taken w make are meant rest l e =
    let p = parted (taking.long rest) _ l e in
    let t = long_taken rest p.0 p.1 in
    said_taken (w ∷ rest) (make p.0.0) p.0.1 l (Fixed w ∷ Long p.0.0 ∷ []) (are p.0.0) (meant p.0.0) p.2 (tt, (t.0, tt)) (ap (λ r. w ∷ r) t.1)

two_taken : (w : List ℕ) (make : ℕ → ℕ → ReportLine) → ((a b : ℕ) → report_line_words (make a b) ≡ Fixed w ∷ Short a ∷ Short b ∷ []) → ((a b : ℕ) → IsConsistent (make a b)) → Takes w (lines.two_short make)
two_taken w make are meant rest l e =
    let p0 = parted (taking.short rest) _ l e in
    let p1 = parted (taking.short p0.0.1) _ l p0.2 in
    let t0 = short_taken rest p0.0 p0.1 in
    let t1 = short_taken p0.0.1 p1.0 p1.1 in
    said_taken (w ∷ rest) (make p0.0.0 p1.0.0) p1.0.1 l (Fixed w ∷ Short p0.0.0 ∷ Short p1.0.0 ∷ []) (are p0.0.0 p1.0.0) (meant p0.0.0 p1.0.0) p1.2 (tt, (t0.0, (t1.0, tt)))
    (ap (λ r. w ∷ r) (t0.1 ∙ ap (λ r. decimal p0.0.0 ∷ r) t1.1))

edition_taken : (rest : Rest) (n : ℕ) (more : Rest) (l : ReportLine) → IsShort n → cond (eqb n 1) (whole (Title n) more) (cond (eqb n 2) (whole (Title n) more) None) ≡ Some l → rest ≡ decimal n ∷ more → LineTaken (codes "report" ∷ rest) l
edition_taken rest n more l fit e words =
    elim (cases_Bool (eqb n 1)) [
      | inl one ↦ whole_taken (codes "report" ∷ rest) (Title n) more l (rw one at e) ((tt, (fit, tt)), inl (eqb-true n 1 one)) (ap (λ r. codes "report" ∷ r) words)
      | inr other ↦
          let later : cond (eqb n 2) (whole (Title n) more) None ≡ Some l = rw other at e in
          elim (cases_Bool (eqb n 2)) [
            | inl two ↦ whole_taken (codes "report" ∷ rest) (Title n) more l (rw two at later) ((tt, (fit, tt)), inr (eqb-true n 2 two)) (ap (λ r. codes "report" ∷ r) words)
            | inr none ↦ absurd (none-some l (rw none at later))
          ]
    ]

title_taken : Takes (codes "report") lines.title
unfolding lines.title
title_taken rest l e =
    let p = parted (taking.short rest) _ l e in
    let t = short_taken rest p.0 p.1 in
    edition_taken rest p.0.0 p.0.1 l t.0 p.2 t.1

dispatch_taken : (now : ℕ) → IsLong now → (rest : Rest) (l : ReportLine) → lines.dispatch now rest ≡ Some l → LineTaken (decimal now ∷ rest) l
unfolding lines.dispatch
dispatch_taken now fit rest l e =
    let p1 = parted (taking.counted (codes "dispatch") rest) _ l e in
    let p2 = parted (taking.short p1.0.1) _ l p1.2 in
    let p3 = parted (reading.subject p2.0.1) _ l p2.2 in
    let t1 = counted_taken (codes "dispatch") rest p1.0 p1.1 in
    let t2 = short_taken p1.0.1 p2.0 p2.1 in
    let t3 = subject_taken p2.0.1 p3.0 p3.1 in
    whole_taken (decimal now ∷ rest) (Past (past_of.Dispatch now p1.0.0 p2.0.0 p3.0.0)) p3.0.1 l p3.2 ((fit, (tt, (t1.0, (t2.0, t3.0)))), tt)
    (ap (λ r. decimal now ∷ r) (t1.1 ∙ ap (λ r. codes "dispatch" ∷ decimal p1.0.0 ∷ r) (t2.1 ∙ ap (λ r. decimal p2.0.0 ∷ r) t3.1)))

refused_taken : Takes (codes "refused") lines.refused_line
unfolding lines.refused_line
refused_taken rest l e =
    let p1 = parted (taking.short rest) _ l e in
    let p2 = parted (reading.subject p1.0.1) _ l p1.2 in
    let p3 = parted (taking.counted (codes "quit") p2.0.1) _ l p2.2 in
    let t1 = short_taken rest p1.0 p1.1 in
    let t2 = subject_taken p1.0.1 p2.0 p2.1 in
    let t3 = counted_taken (codes "quit") p2.0.1 p3.0 p3.1 in
    let subject = subject_words p2.0.0 in
    let quit : List WrittenWord = Fixed (codes "quit") ∷ Long p3.0.0 ∷ [] in
    whole_taken (codes "refused" ∷ rest) (Past (past_of.Refused p1.0.0 p2.0.0 p3.0.0)) p3.0.1 l p3.2 ((tt, (t1.0, AllByRecursion-append FitsWord subject quit t2.0 (tt, (t3.0, tt)))), tt)
    (ap (λ r. codes "refused" ∷ r) (t1.1 ∙ ap (λ r. decimal p1.0.0 ∷ r) (t2.1 ∙ ap (λ r. spelled_words subject ++ r) t3.1 ∙ sym (spelled_on subject quit p3.0.1))))

abbrev FatesTaken : Rest → FatesData × Rest → Type 0
FatesTaken rest y = Spells fates_words (codes "fates" ∷ rest) y

fates_of_taken : (rest : Rest) (y : FatesData × Rest) → lines.fates_of rest ≡ Some y → FatesTaken rest y
unfolding lines.fates_of
fates_of_taken rest y e =
    counted_then (FatesTaken rest y) (codes "accepted") rest _ y e (λ a r1 s1 w1 e1.
    counted_then (FatesTaken rest y) (codes "dispatched") r1 _ y e1 (λ b r2 s2 w2 e2.
    counted_then (FatesTaken rest y) (codes "removed") r2 _ y e2 (λ c r3 s3 w3 e3.
    counted_then (FatesTaken rest y) (codes "dropped") r3 _ y e3 (λ d r4 s4 w4 e4.
    counted_then (FatesTaken rest y) (codes "stranded") r4 _ y e4 (λ f r5 s5 w5 e5.
    counted_then (FatesTaken rest y) (codes "queued") r5 _ y e5 (λ g r6 s6 w6 e6.
    let made : FatesData = record { accepted = a; dispatched = b; removed = c; dropped = d; stranded = f; queued = g } in
    let words : codes "fates" ∷ rest ≡ spelled_words (fates_words made) ++ r6 =
    ap (λ r. codes "fates" ∷ r) (w1 ∙ ap (λ r. codes "accepted" ∷ decimal a ∷ r) (w2 ∙ ap (λ r. codes "dispatched" ∷ decimal b ∷ r) (w3 ∙ ap (λ r. codes "removed" ∷ decimal c ∷ r)
    (w4 ∙ ap (λ r. codes "dropped" ∷ decimal d ∷ r) (w5 ∙ ap (λ r. codes "stranded" ∷ decimal f ∷ r) w6))))) in
    subst (FatesTaken rest) (same_Some (made, r6) y e6) ((tt, (tt, (s1, (tt, (s2, (tt, (s3, (tt, (s4, (tt, (s5, (tt, (s6, tt))))))))))))), words)))))))

sum_taken : (rest : Rest) (p : FatesData × Rest) (l : ReportLine) → FatesTaken rest p → cond (adds_up p.0) (whole (Fates p.0) p.1) None ≡ Some l → LineTaken (codes "fates" ∷ rest) l
sum_taken rest p l t e =
    elim (cases_Bool (adds_up p.0)) [
      | inl sum ↦ whole_taken (codes "fates" ∷ rest) (Fates p.0) p.1 l (rw sum at e) (t.0, eqb-true p.0.accepted (p.0.dispatched + p.0.removed + p.0.dropped + p.0.stranded + p.0.queued) sum) t.1
      | inr other ↦ absurd (none-some l (rw other at e))
    ]

fates_taken : Takes (codes "fates") lines.fates_said
unfolding lines.fates_said
fates_taken rest l e =
    let p = parted (lines.fates_of rest) _ l e in
    sum_taken rest p.0 l (fates_of_taken rest p.0 p.1) p.2

idle_taken : Takes (codes "idle") (λ rest. and_then (taking.short rest) (λ id more. whole (Act (act_of.Idle id)) more))
idle_taken rest l e =
    let p = parted (taking.short rest) _ l e in
    let t = short_taken rest p.0 p.1 in
    whole_taken (codes "idle" ∷ rest) (Act (act_of.Idle p.0.0)) p.0.1 l p.2 ((tt, (t.0, tt)), tt) (ap (λ r. codes "idle" ∷ r) t.1)

run_taken : Takes (codes "run") (λ rest. and_then (taking.short rest) (λ phase more. and_then (taking.long more) (λ id most. whole (Run (record { phase = phase; id = id })) most)))
run_taken rest l e =
    let p1 = parted (taking.short rest) _ l e in
    let p2 = parted (taking.long p1.0.1) _ l p1.2 in
    let t1 = short_taken rest p1.0 p1.1 in
    let t2 = long_taken p1.0.1 p2.0 p2.1 in
    let made : RunData = record { phase = p1.0.0; id = p2.0.0 } in
    whole_taken (codes "run" ∷ rest) (Run made) p2.0.1 l p2.2 ((tt, (t1.0, (t2.0, tt))), tt) (ap (λ r. codes "run" ∷ r) (t1.1 ∙ ap (λ r. decimal p1.0.0 ∷ r) t2.1))

named_taken : (w : List ℕ) (rest : Rest) (l : ReportLine) → by_word lines.rows w rest ≡ Some l → LineTaken (w ∷ rest) l
named_taken = rows_hold (λ w rest l. LineTaken (w ∷ rest) l) lines.rows (
  refused_taken,
  (
    one_taken (codes "not-posted") (λ n. Past (past_of.NotPosted n)) (λ n. refl) (λ n. tt),
    (
      alone_taken (codes "not-allowed") (Past past_of.NotAllowed) refl tt,
      (
        one_taken (codes "already-quit") (λ n. Past (past_of.AlreadyQuit n)) (λ n. refl) (λ n. tt),
        (
          fates_taken,
          (
            idle_taken,
            (
              two_taken (codes "event") (λ a b. Act (act_of.Event a b)) (λ a b. refl) (λ a b. tt),
              (
                two_taken (codes "paint") (λ a b. Act (act_of.Paint a b)) (λ a b. refl) (λ a b. tt),
                (
                  one_taken (codes "frame") Frame (λ n. refl) (λ n. tt),
                  (run_taken, (one_taken (codes "looper") Looper (λ n. refl) (λ n. tt), (title_taken, (alone_taken (codes "end") End refl tt, tt)))),
                ),
              ),
            ),
          ),
        ),
      ),
    ),
  ),
)

by_taken : (w : List ℕ) (o : Option ℕ) (rest : Rest) (l : ReportLine) → spelled_number w ≡ o → lines.line_by w o rest ≡ Some l → LineTaken (w ∷ rest) l
by_taken w None rest l is e = named_taken w rest l e
by_taken w (Some now) rest l is e =
    let t = dispatch_taken now (number_small w now is) rest l e in (t.0, ap (λ v. v ∷ rest) (number_taken w now is) ∙ t.1)

-- a line that is read has these words, with numbers within their limits
pub line_taken : (ws : Rest) (l : ReportLine) → lines.line_of ws ≡ Some l → FitsReportLine l × (ws ≡ spelled_words (report_line_words l))
unfolding lines.line_of
line_taken [] l e = absurd (none-some l e)
line_taken (w ∷ rest) l e = by_taken w (spelled_number w) rest l refl e
