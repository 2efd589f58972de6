-- The fates of what a run tells add up, so that limits alone have to be asked for.
use Rattle.std.proofs.Common.{◌≡◌, ◌+◌, ℕ, Bool, List, [], ◌∷◌, ◌++◌, map, length, refl, arith}
use Rattle.std.specs.Prelude.{count_by, cond}
use Rattle.std.specs.List.{flat_map, AllByRecursion}
use Rattle.std.proofs.lemmas.List.Recursion.{is_count_by}
use Rattle.loop_model.proofs.Sorting.{AllByRecursion-append}
use Rattle.loop_model.specs.declared.fate.Fate.{Fate}
use Rattle.loop_model.specs.declared.fate.Fate.TheVariants.{Queued, Dispatched, Removed, Dropped, Stranded}
use Rattle.loop_model.specs.declared.journal.Journal.{Journal}
use Rattle.loop_model.specs.declared.record.QueueRecord.{QueueRecord}
use Rattle.loop_model.specs.Fates.{fates, is_queued, is_dispatched, is_removed, is_dropped, is_stranded}
use Rattle.frame_phases.specs.declared.entry.FrameRecord.{FrameRecord}
use Rattle.run_model.specs.Planned.{history_of}
use Rattle.run_picture.specs.declared.report.Past.{Past as PastData}
use Rattle.run_picture.specs.declared.report.Act.{Act as ActData}
use Rattle.run_picture.specs.declared.report.Run.{Run as RunData}
use Rattle.run_picture.specs.declared.report.Frame.{Frame as FrameData}
use Rattle.run_picture.specs.declared.report.Looper.{Looper as LooperData}
use Rattle.run_picture.specs.declared.line.ReportLine.{ReportLine}
use Rattle.run_picture.specs.declared.line.ReportLine.TheVariants.{Title, Looper, Past, Fates, Act, Frame, Run, End}
use Rattle.run_picture.specs.Text.{AddsUp, FitsReportLine, read_frame_lines, read_looper_lines, read_loopers_lines, read_report_lines}
use Rattle.report_law.specs.Seen.{counted_fates, seen_looper, seen_loopers, seen}
use Rattle.report_law.specs.Laws.{HasLimits, PrintedIsRead}
use Rattle.report_law.proofs.Same.{text_same}

-- ---- the counts of fates

abbrev tally : (Fate → Bool) → List Fate → ℕ
tally p [] = 0
tally p (f ∷ fs) = cond (p f) (1 + tally p fs) (tally p fs)

tally_is : (p : Fate → Bool) (fs : List Fate) → tally p fs ≡ count_by p fs
tally_is p fs = is_count_by (tally p) p refl (λ x xs. refl) fs

all_tallied : (fs : List Fate)
    → length fs ≡ tally is_dispatched fs + tally is_removed fs + tally is_dropped fs + tally is_stranded fs + tally is_queued fs
all_tallied [] = refl
all_tallied (Queued ∷ fs) = let rest = all_tallied fs in omega (arith, rest)
all_tallied (Dispatched ∷ fs) = let rest = all_tallied fs in omega (arith, rest)
all_tallied (Removed ∷ fs) = let rest = all_tallied fs in omega (arith, rest)
all_tallied (Dropped ∷ fs) = let rest = all_tallied fs in omega (arith, rest)
all_tallied (Stranded ∷ fs) = let rest = all_tallied fs in omega (arith, rest)

add_up : (fs : List Fate) → AddsUp (counted_fates fs)
add_up fs =
    let all = all_tallied fs in
    let d = tally_is is_dispatched fs in
    let r = tally_is is_removed fs in
    let x = tally_is is_dropped fs in
    let s = tally_is is_stranded fs in
    let q = tally_is is_queued fs in
    omega (arith, all, d, r, x, s, q)

-- ---- the lines

-- where it counts fates, they add up
abbrev IsSummed : ReportLine → Type 0
IsSummed (Title edition) = Unit {0}
IsSummed (Looper number) = Unit {0}
IsSummed (Past p) = Unit {0}
IsSummed (Fates f) = AddsUp f
IsSummed (Act a) = Unit {0}
IsSummed (Frame time) = Unit {0}
IsSummed (Run r) = Unit {0}
IsSummed End = Unit {0}

past_summed : (ps : List PastData) → AllByRecursion IsSummed (map Past ps)
past_summed [] = tt
past_summed (p ∷ ps) = (tt, past_summed ps)

acts_summed : (acts : List ActData) → AllByRecursion IsSummed (map Act acts)
acts_summed [] = tt
acts_summed (a ∷ acts) = (tt, acts_summed acts)

runs_summed : (rs : List RunData) → AllByRecursion IsSummed (map Run rs)
runs_summed [] = tt
runs_summed (r ∷ rs) = (tt, runs_summed rs)

frames_summed : (fs : List FrameData) → AllByRecursion IsSummed (flat_map read_frame_lines fs)
frames_summed [] = tt
frames_summed (f ∷ fs) = (tt, AllByRecursion-append IsSummed (map Run f.runs) (flat_map read_frame_lines fs) (runs_summed f.runs) (frames_summed fs))

looper_summed : (n : ℕ) (l : LooperData) → AddsUp l.fates → AllByRecursion IsSummed (read_looper_lines n l)
looper_summed n l sum =
    AllByRecursion-append IsSummed (Looper n ∷ map Past l.past ++ Fates l.fates ∷ map Act l.acts) (flat_map read_frame_lines l.frames)
    (tt, AllByRecursion-append IsSummed (map Past l.past) (Fates l.fates ∷ map Act l.acts) (past_summed l.past) (sum, acts_summed l.acts))
    (frames_summed l.frames)

loopers_summed : (n : ℕ) (qs : List QueueRecord) (js : List Journal) (fs : List FrameRecord)
    → AllByRecursion IsSummed (read_loopers_lines n (seen_loopers qs js fs))
loopers_summed n [] js fs = tt
loopers_summed n (q ∷ qs) [] fs = tt
loopers_summed n (q ∷ qs) (j ∷ js) [] = tt
loopers_summed n (q ∷ qs) (j ∷ js) (f ∷ fs) =
    AllByRecursion-append IsSummed (read_looper_lines n (seen_looper q j f)) (read_loopers_lines (n + 1) (seen_loopers qs js fs))
    (looper_summed n (seen_looper q j f) (add_up (fates (history_of q))))
    (loopers_summed (n + 1) qs js fs)

line_fits : (l : ReportLine) → HasLimits l → IsSummed l → FitsReportLine l
line_fits (Title edition) limits sum = limits
line_fits (Looper number) limits sum = limits
line_fits (Past p) limits sum = limits
line_fits (Fates f) limits sum = (limits, sum)
line_fits (Act a) limits sum = limits
line_fits (Frame time) limits sum = limits
line_fits (Run r) limits sum = limits
line_fits End limits sum = limits

lines_fit : (ls : List ReportLine) → AllByRecursion HasLimits ls → AllByRecursion IsSummed ls → AllByRecursion FitsReportLine ls
lines_fit [] limits sums = tt
lines_fit (l ∷ ls) limits sums = (line_fits l limits.0 sums.0, lines_fit ls limits.1 sums.1)

pub printed_read : PrintedIsRead
printed_read r counted framed limits =
    let loopers = read_loopers_lines 0 (seen_loopers r.queues r.journals r.frames) in
    let sums : AllByRecursion IsSummed (read_report_lines (seen r)) =
    AllByRecursion-append IsSummed (Title r.script.edition ∷ loopers) (End ∷ []) (tt, loopers_summed 0 r.queues r.journals r.frames) (tt, tt) in
    (text_same r counted framed, lines_fit (read_report_lines (seen r)) limits sums)
