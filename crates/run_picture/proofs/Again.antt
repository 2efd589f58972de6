-- The words of a line are read as the line, and each of them is a word.
use Rattle.std.proofs.Common.{◌≡◌, ◌+◌, ◌^◌, ℕ, List, [], ◌∷◌, ◌++◌, Some, refl, sym, ap, subst, ◌∙◌, inl, inr, arith}
use Rattle.std.specs.Prelude.{codes}
use Rattle.std.specs.List.{AllByRecursion}
use Rattle.std.specs.Fmt.{decimal}
use Rattle.std.proofs.lemmas.Bool.{lt-ltb, eq-eqb}
use Rattle.std.proofs.lemmas.List.{append-nil, map-append}
use Rattle.line_words.specs.Words.{spelled_number}
use Rattle.line_words.specs.Written.{IsShort, IsLong, WrittenWord, Fixed, Long, FitsWord, spelled, spelled_words}
use Rattle.line_words.specs.Taking.{Rest}
use Rattle.line_words.proofs.Spelling.{number_again}
use Rattle.line_words.proofs.Wording.{IsWord, AreWords, words_append, long_short, decimal_word, short_word, fit_parted}
use Rattle.line_words.proofs.Again.{then_again, long_again, short_again, counted_again}
use Rattle.run_picture.specs.declared.report.Subject.{Subject}
use Rattle.run_picture.specs.declared.report.Subject.TheVariants.{What, Callback}
use Rattle.run_picture.specs.declared.report.Past.{Past as PastData}
use Rattle.run_picture.specs.declared.report.Past.TheVariants as past_of
use Rattle.run_picture.specs.declared.report.Fates.{Fates as FatesData}
use Rattle.run_picture.specs.declared.report.Act.{Act as ActData}
use Rattle.run_picture.specs.declared.report.Act.TheVariants as act_of
use Rattle.run_picture.specs.declared.report.Run.{Run as RunData}
use Rattle.run_picture.specs.declared.line.ReportLine.{ReportLine}
use Rattle.run_picture.specs.declared.line.ReportLine.TheVariants.{Title, Looper, Past, Fates, Act, Frame, Run, End}
use Rattle.run_picture.specs.Reading as reading
use Rattle.run_picture.specs.Lines as lines
use Rattle.run_picture.specs.Text.{IsConsistent, FitsReportLine, report_line_words, past_words, act_words, subject_words, fates_words}

-- each number is within its width
abbrev Fit : List WrittenWord → Type 0
Fit ws = AllByRecursion FitsWord ws

subject_again : (s : Subject) (rest : Rest) → Fit (subject_words s) → reading.subject (spelled_words (subject_words s) ++ rest) ≡ Some (s, rest)
unfolding reading.subject spelled_number
subject_again (What w) rest fit =
    ap (λ o. reading.subject_by (decimal w) o rest) (number_again w (long_short w fit.0)) ∙ (rw (lt-ltb w (2 ^ 32) fit.0) refl)
subject_again (Callback c) rest fit = then_again _ _ _ _ (Callback c, rest) (long_again c rest fit.1.0) refl

-- ---- lines

dispatch_again : (now number handler : ℕ) (s : Subject) → Fit (past_words (past_of.Dispatch now number handler s))
    → lines.dispatch now (codes "dispatch" ∷ decimal number ∷ decimal handler ∷ spelled_words (subject_words s)) ≡ Some (Past (past_of.Dispatch now number handler s))
unfolding lines.dispatch
dispatch_again now number handler s (_, (_, (count, (place, subject)))) =
    let y = Past (past_of.Dispatch now number handler s) in
    let last : reading.subject (spelled_words (subject_words s)) ≡ Some (s, []) = ap reading.subject (sym (append-nil (spelled_words (subject_words s)))) ∙ subject_again s [] subject in
    then_again _ _ _ _ y (counted_again (codes "dispatch") number _ refl count) (then_again _ _ _ _ y (short_again handler _ place) (then_again _ _ _ _ y last refl))

-- what stands behind the message that was refused
abbrev quit_words : ℕ → List WrittenWord
quit_words place = Fixed (codes "quit") ∷ Long place ∷ []

refused_again : (handler : ℕ) (s : Subject) (place : ℕ) → Fit (past_words (past_of.Refused handler s place))
    → lines.refused_line (decimal handler ∷ spelled_words (subject_words s ++ quit_words place)) ≡ Some (Past (past_of.Refused handler s place))
unfolding lines.refused_line
refused_again handler s place fit =
    let y = Past (past_of.Refused handler s place) in
    let parts = fit_parted (subject_words s) (quit_words place) fit.1.1 in
    then_again _ _ _ _ y (short_again handler _ fit.1.0) (then_again _ _ _ _ y (ap reading.subject (map-append spelled (subject_words s) (quit_words place)) ∙ subject_again s _ parts.0)
    (then_again _ _ _ _ y (counted_again (codes "quit") place _ refl parts.1.1.0) refl))

-- a line of one number, and one of two
one_again : (n : ℕ) (make : ℕ → ReportLine) → IsLong n → lines.one_long make (decimal n ∷ []) ≡ Some (make n)
one_again n make fit = then_again _ _ _ _ (make n) (long_again n [] fit) refl

two_again : (a b : ℕ) (make : ℕ → ℕ → ReportLine) → IsShort a → IsShort b → lines.two_short make (decimal a ∷ decimal b ∷ []) ≡ Some (make a b)
two_again a b make f g = then_again _ _ _ _ (make a b) (short_again a _ f) (then_again _ _ _ _ (make a b) (short_again b [] g) refl)

past_again : (p : PastData) → Fit (past_words p) → lines.line_of (spelled_words (past_words p)) ≡ Some (Past p)
unfolding lines.line_of spelled_number
past_again (past_of.Dispatch now number handler s) fit =
    let rest = codes "dispatch" ∷ decimal number ∷ decimal handler ∷ spelled_words (subject_words s) in
    ap (λ o. lines.line_by (decimal now) o rest) (number_again now fit.0) ∙ dispatch_again now number handler s fit
past_again (past_of.Refused handler s place) fit = refused_again handler s place fit
past_again (past_of.NotPosted token) fit = one_again token (λ n. Past (past_of.NotPosted n)) fit.1.0
past_again past_of.NotAllowed fit = refl
past_again (past_of.AlreadyQuit place) fit = one_again place (λ n. Past (past_of.AlreadyQuit n)) fit.1.0

fates_again : (f : FatesData) → FitsReportLine (Fates f) → lines.line_of (spelled_words (fates_words f)) ≡ Some (Fates f)
unfolding lines.line_of lines.fates_said lines.fates_of spelled_number
fates_again f ((_, (_, (accepted, (_, (dispatched, (_, (removed, (_, (dropped, (_, (stranded, (_, (queued, _))))))))))))), sum) =
    let y : FatesData × Rest = (f, []) in
    then_again _ _ _ _ (Fates f) (then_again _ _ _ _ y (counted_again (codes "accepted") f.accepted _ refl accepted) (then_again _ _ _ _ y (counted_again (codes "dispatched") f.dispatched _ refl dispatched)
    (then_again _ _ _ _ y (counted_again (codes "removed") f.removed _ refl removed) (then_again _ _ _ _ y (counted_again (codes "dropped") f.dropped _ refl dropped) (then_again _ _ _ _ y (counted_again (codes "stranded") f.stranded _ refl stranded)
    (then_again _ _ _ _ y (counted_again (codes "queued") f.queued _ refl queued) refl)))))) (rw (eq-eqb f.accepted (f.dispatched + f.removed + f.dropped + f.stranded + f.queued) sum) refl)

act_again : (a : ActData) → Fit (act_words a) → lines.line_of (spelled_words (act_words a)) ≡ Some (Act a)
unfolding lines.line_of spelled_number
act_again (act_of.Idle id) fit = then_again _ _ _ _ (Act (act_of.Idle id)) (short_again id [] fit.1.0) refl
act_again (act_of.Event fd events) fit = two_again fd events (λ a b. Act (act_of.Event a b)) fit.1.0 fit.1.1.0
act_again (act_of.Paint gauge value) fit = two_again gauge value (λ a b. Act (act_of.Paint a b)) fit.1.0 fit.1.1.0

title_again : (edition : ℕ) → IsConsistent (Title edition) → lines.title (decimal edition ∷ []) ≡ Some (Title edition)
unfolding lines.title
title_again edition (inl one) =
    then_again _ _ _ _ (Title edition) (short_again edition [] (omega (arith, one))) (rw (eq-eqb edition 1 one) refl)
title_again edition (inr two) = subst (λ n. lines.title (decimal n ∷ []) ≡ Some (Title n)) (sym two) (then_again _ _ _ _ (Title 2) (short_again 2 [] (omega arith)) refl)

run_again : (r : RunData) → Fit (report_line_words (Run r)) → lines.line_of (spelled_words (report_line_words (Run r))) ≡ Some (Run r)
unfolding lines.line_of spelled_number
run_again r fit = then_again _ _ _ _ (Run r) (short_again r.phase _ fit.1.0) (then_again _ _ _ _ (Run r) (long_again r.id [] fit.1.1.0) refl)

pub line_again : (l : ReportLine) → FitsReportLine l → lines.line_of (spelled_words (report_line_words l)) ≡ Some l
unfolding lines.line_of spelled_number
line_again (Title edition) fit = title_again edition fit.1
line_again (Looper n) fit = one_again n Looper fit.0.1.0
line_again (Past p) fit = past_again p fit.0
line_again (Fates f) fit = fates_again f fit
line_again (Act a) fit = act_again a fit.0
line_again (Frame t) fit = one_again t Frame fit.0.1.0
line_again (Run r) fit = run_again r fit.0
line_again End fit = refl

-- ---- each word of a line is a word

subject_are : (s : Subject) → Fit (subject_words s) → AreWords (spelled_words (subject_words s))
subject_are (What w) fit = (short_word w fit.0, tt)
subject_are (Callback c) fit = ((refl, refl), (decimal_word c fit.1.0, tt))

-- a fixed word, and one number behind it
one_number : (w : List ℕ) (n : ℕ) → IsWord w → Fit (Fixed w ∷ Long n ∷ []) → AreWords (spelled_words (Fixed w ∷ Long n ∷ []))
one_number w n is fit = (is, (decimal_word n fit.1.0, tt))

past_are : (p : PastData) → Fit (past_words p) → AreWords (spelled_words (past_words p))
past_are (past_of.Dispatch now number handler s) (time, (_, (count, (place, subject)))) =
    (decimal_word now time, ((refl, refl), (decimal_word number count, (short_word handler place, subject_are s subject))))
past_are (past_of.Refused handler s place) fit =
    let parts = fit_parted (subject_words s) (quit_words place) fit.1.1 in
    let behind = words_append (spelled_words (subject_words s)) (spelled_words (quit_words place)) (subject_are s parts.0) (one_number (codes "quit") place (refl, refl) parts.1) in
    ((refl, refl), (short_word handler fit.1.0, subst AreWords (sym (map-append spelled (subject_words s) (quit_words place))) behind))
past_are (past_of.NotPosted token) fit = one_number (codes "not-posted") token (refl, refl) fit
past_are past_of.NotAllowed fit = ((refl, refl), tt)
past_are (past_of.AlreadyQuit place) fit = one_number (codes "already-quit") place (refl, refl) fit

act_are : (a : ActData) → Fit (act_words a) → AreWords (spelled_words (act_words a))
act_are (act_of.Idle id) fit = ((refl, refl), (short_word id fit.1.0, tt))
act_are (act_of.Event fd events) fit = ((refl, refl), (short_word fd fit.1.0, (short_word events fit.1.1.0, tt)))
act_are (act_of.Paint gauge value) fit = ((refl, refl), (short_word gauge fit.1.0, (short_word value fit.1.1.0, tt)))

fates_are : (f : FatesData) → Fit (fates_words f) → AreWords (spelled_words (fates_words f))
fates_are f (_, (_, (accepted, (_, (dispatched, (_, (removed, (_, (dropped, (_, (stranded, (_, (queued, _))))))))))))) = (
  (refl, refl),
  (
    (refl, refl),
    (
      decimal_word f.accepted accepted,
      (
        (refl, refl),
        (
          decimal_word f.dispatched dispatched,
          (
            (refl, refl),
            (
              decimal_word f.removed removed,
              (
                (refl, refl),
                (
                  decimal_word f.dropped dropped,
                  ((refl, refl), (decimal_word f.stranded stranded, ((refl, refl), (decimal_word f.queued queued, tt)))),
                ),
              ),
            ),
          ),
        ),
      ),
    ),
  ),
)

pub line_are : (l : ReportLine) → FitsReportLine l → AreWords (spelled_words (report_line_words l))
line_are (Title edition) fit = ((refl, refl), (short_word edition fit.0.1.0, tt))
line_are (Looper n) fit = one_number (codes "looper") n (refl, refl) fit.0
line_are (Past p) fit = past_are p fit.0
line_are (Fates f) fit = fates_are f fit.0
line_are (Act a) fit = act_are a fit.0
line_are (Frame t) fit = one_number (codes "frame") t (refl, refl) fit.0
line_are (Run r) fit = ((refl, refl), (short_word r.phase fit.0.1.0, (decimal_word r.id fit.0.1.1.0, tt)))
line_are End fit = ((refl, refl), tt)
