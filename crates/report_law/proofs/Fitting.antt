-- Where the numbers of a report have their widths, so have those of the lines that are printed of it.
use Rattle.std.proofs.Common.{◌≡◌, ◌+◌, ◌≤◌, ◌^◌, ℕ, zero, suc, Bool, true, false, cond, List, [], ◌∷◌, ◌++◌, map, length, Option, Some, None, sym, subst, inl, inr, arith}
use Rattle.std.specs.Prelude.{IfSome, slice_get, codes}
use Rattle.std.specs.List.{flat_map, cons_option, AllByRecursion, list_all}
use Rattle.std.specs.Option.{option_map_or}
use Rattle.std.proofs.lemmas.List.{map-append}
use Rattle.std.proofs.lemmas.Bool.{and_parts, ltb-true}
use Rattle.std.proofs.lemmas.List.Sums.{count_by-le-length}
use Rattle.loop_model.proofs.Sorting.{AllByRecursion-append}
use Rattle.loop_model.specs.declared.post.Post.{Post as PostData}
use Rattle.loop_model.specs.declared.call.Call.{Call}
use Rattle.loop_model.specs.declared.call.Call.TheVariants as call
use Rattle.loop_model.specs.declared.reply.Reply.{Reply}
use Rattle.loop_model.specs.declared.reply.Reply.TheVariants as reply
use Rattle.loop_model.specs.declared.entry.Entry.{Entry}
use Rattle.loop_model.specs.declared.fate.Fate.{Fate}
use Rattle.loop_model.specs.declared.segment.Segment.{Segment}
use Rattle.loop_model.specs.declared.journal.Act.{Act as ActData}
use Rattle.loop_model.specs.declared.journal.Act.TheVariants as act
use Rattle.loop_model.specs.declared.journal.Journal.{Journal}
use Rattle.loop_model.specs.declared.record.QueueRecord.{QueueRecord}
use Rattle.loop_model.specs.Chain.{entries_of}
use Rattle.loop_model.specs.Entries.{is_accepted}
use Rattle.loop_model.specs.Posts.{accepted_by, accepted_posts}
use Rattle.loop_model.specs.Fates.{fates, is_queued, is_dispatched, is_removed, is_dropped, is_stranded}
use Rattle.frame_phases.specs.declared.entry.Callback.{Callback}
use Rattle.frame_phases.specs.declared.entry.FrameEntry.{FrameEntry}
use Rattle.frame_phases.specs.declared.entry.FrameEntry.TheVariants as entry
use Rattle.frame_phases.specs.declared.entry.FrameRecord.{FrameRecord}
use Rattle.line_words.specs.Written.{IsShort, IsLong, Fixed, Long, FitsWord}
use Rattle.dash_script.specs.Reading.{IsEdition}
use Rattle.run_model.specs.declared.report.Report.{Report as RunReport}
use Rattle.run_model.specs.Planned.{history_of}
use Rattle.run_picture.specs.declared.report.Past.TheVariants as past
use Rattle.run_picture.specs.declared.line.ReportLine.{ReportLine}
use Rattle.run_picture.specs.declared.line.ReportLine.TheVariants.{Title, Looper, Past, Fates, Act, Run, End}
use Rattle.run_picture.specs.Text.{subject_words, read_frame_lines, read_looper_lines, read_loopers_lines, read_report_lines}
use Rattle.report_law.specs.Seen.{subject_of, past_by, counted_fates, acts_by, run_of, runs_first, seen_frames, posted_in, seen_looper, seen_loopers, seen}
use Rattle.report_law.specs.Widths.{PostFits, CallFits, ReplyFits, EntryFits, SegmentFits, QueueFits, ActFits, JournalFits, CallbackFits, FrameEntryFits, FramesFit, ReportFits}
use Rattle.report_law.specs.Laws.{HasLimits, is_countable}

abbrev Limited : List ReportLine → Type 0
Limited ls = AllByRecursion HasLimits ls

-- ---- lists

-- what holds of all members holds of the one at a place
member : {A : Type 0} (xs : List A) (n : ℕ) (P : A → Type 0) → AllByRecursion P xs → IfSome (slice_get xs n) P
member [] n P all = tt
member (x ∷ xs) zero P all = all.0
member (x ∷ xs) (suc n) P all = member xs n P all.1

one_more : {A : Type 0} (P : A → Type 0) (o : Option A) (xs : List A) → IfSome o P → AllByRecursion P xs → AllByRecursion P (cons_option o xs)
one_more P None xs h all = all
one_more P (Some x) xs h all = (h, all)

-- lines that are those of two lists
both : {A : Type 0} (line : A → ReportLine) (xs ys : List A) → Limited (map line xs) → Limited (map line ys) → Limited (map line (xs ++ ys))
both line xs ys f g = subst Limited (sym (map-append line xs ys)) (AllByRecursion-append HasLimits (map line xs) (map line ys) f g)

-- ---- a queue's history

subject_fits : (what : ℕ) (o : Option ℕ) → IsShort what → IfSome o IsLong → AllByRecursion FitsWord (subject_words (subject_of what o))
subject_fits what None short long = (short, tt)
subject_fits what (Some c) short long = (tt, (long, tt))

refused_fits : (what handler place : ℕ) (o : Option ℕ) → IsShort what → IfSome o IsLong → IsShort handler → IsLong place → HasLimits (Past (past.Refused handler (subject_of what o) place))
refused_fits what handler place o short long own quit =
    ((tt, (own, AllByRecursion-append FitsWord (subject_words (subject_of what o)) (Fixed (codes "quit") ∷ Long place ∷ []) (subject_fits what o short long) (tt, (quit, tt)))), tt)

dispatch_fits : (now n : ℕ) (o : Option PostData) → IsLong now → IsLong n → IfSome o PostFits
    → Limited (map Past (option_map_or (λ p. past.Dispatch now n p.handler (subject_of p.what p.callback) ∷ []) o []))
dispatch_fits now n None l m fits = tt
dispatch_fits now n (Some p) l m fits = (((l, (tt, (m, (fits.0, subject_fits p.what p.callback fits.1 fits.2)))), tt), tt)

past_fits : (posts : List PostData) (c : Call) (r : Reply) → AllByRecursion PostFits posts → CallFits c × ReplyFits r → Limited (map Past (past_by posts c r))
past_fits posts (call.Post p) (reply.Accepted n) all fits = tt
past_fits posts (call.Post p) (reply.Refused place) all fits = (refused_fits p.what p.handler place p.callback fits.0.1 fits.0.2 fits.0.0 fits.1, tt)
past_fits posts (call.Post p) (reply.Token t) all fits = tt
past_fits posts (call.Post p) reply.Unbarriered all fits = tt
past_fits posts (call.Post p) reply.NotPosted all fits = tt
past_fits posts (call.Post p) (reply.Removed k) all fits = tt
past_fits posts (call.Post p) reply.QuitDone all fits = tt
past_fits posts (call.Post p) (reply.AlreadyQuit place) all fits = tt
past_fits posts (call.Post p) reply.NotAllowed all fits = tt
past_fits posts (call.Post p) (reply.Dispatched n) all fits = tt
past_fits posts (call.Post p) reply.Disposed all fits = tt
past_fits posts (call.Post p) reply.Advanced all fits = tt
past_fits posts (call.Post p) reply.Halted all fits = tt
past_fits posts (call.Barrier now) r all fits = tt
past_fits posts (call.Unbarrier token) (reply.Accepted n) all fits = tt
past_fits posts (call.Unbarrier token) (reply.Refused place) all fits = tt
past_fits posts (call.Unbarrier token) (reply.Token t) all fits = tt
past_fits posts (call.Unbarrier token) reply.Unbarriered all fits = tt
past_fits posts (call.Unbarrier token) reply.NotPosted all fits = (((tt, (fits.0, tt)), tt), tt)
past_fits posts (call.Unbarrier token) (reply.Removed k) all fits = tt
past_fits posts (call.Unbarrier token) reply.QuitDone all fits = tt
past_fits posts (call.Unbarrier token) (reply.AlreadyQuit place) all fits = tt
past_fits posts (call.Unbarrier token) reply.NotAllowed all fits = tt
past_fits posts (call.Unbarrier token) (reply.Dispatched n) all fits = tt
past_fits posts (call.Unbarrier token) reply.Disposed all fits = tt
past_fits posts (call.Unbarrier token) reply.Advanced all fits = tt
past_fits posts (call.Unbarrier token) reply.Halted all fits = tt
past_fits posts (call.Remove f) r all fits = tt
past_fits posts (call.Quit safe now) (reply.Accepted n) all fits = tt
past_fits posts (call.Quit safe now) (reply.Refused place) all fits = tt
past_fits posts (call.Quit safe now) (reply.Token t) all fits = tt
past_fits posts (call.Quit safe now) reply.Unbarriered all fits = tt
past_fits posts (call.Quit safe now) reply.NotPosted all fits = tt
past_fits posts (call.Quit safe now) (reply.Removed k) all fits = tt
past_fits posts (call.Quit safe now) reply.QuitDone all fits = tt
past_fits posts (call.Quit safe now) (reply.AlreadyQuit place) all fits = (((tt, (fits.1, tt)), tt), tt)
past_fits posts (call.Quit safe now) reply.NotAllowed all fits = (((tt, tt), tt), tt)
past_fits posts (call.Quit safe now) (reply.Dispatched n) all fits = tt
past_fits posts (call.Quit safe now) reply.Disposed all fits = tt
past_fits posts (call.Quit safe now) reply.Advanced all fits = tt
past_fits posts (call.Quit safe now) reply.Halted all fits = tt
past_fits posts (call.Next now) (reply.Accepted n) all fits = tt
past_fits posts (call.Next now) (reply.Refused place) all fits = tt
past_fits posts (call.Next now) (reply.Token t) all fits = tt
past_fits posts (call.Next now) reply.Unbarriered all fits = tt
past_fits posts (call.Next now) reply.NotPosted all fits = tt
past_fits posts (call.Next now) (reply.Removed k) all fits = tt
past_fits posts (call.Next now) reply.QuitDone all fits = tt
past_fits posts (call.Next now) (reply.AlreadyQuit place) all fits = tt
past_fits posts (call.Next now) reply.NotAllowed all fits = tt
past_fits posts (call.Next now) (reply.Dispatched n) all fits = dispatch_fits now n (slice_get posts n) fits.0 fits.1 (member posts n PostFits all)
past_fits posts (call.Next now) reply.Disposed all fits = tt
past_fits posts (call.Next now) reply.Advanced all fits = tt
past_fits posts (call.Next now) reply.Halted all fits = tt
past_fits posts (call.Advance now) r all fits = tt
past_fits posts (call.Halt now) r all fits = tt

entries_fit : (posts : List PostData) (es : List Entry) → AllByRecursion PostFits posts → AllByRecursion EntryFits es → Limited (map Past (flat_map (λ e. past_by posts e.call e.reply) es))
entries_fit posts [] all fits = tt
entries_fit posts (e ∷ es) all fits =
    both Past (past_by posts e.call e.reply) (flat_map (λ e. past_by posts e.call e.reply) es) (past_fits posts e.call e.reply all fits.0) (entries_fit posts es all fits.1)

tested_fits : (b : Bool) (p : PostData) → PostFits p → IfSome (cond b (Some p) None) PostFits
tested_fits true p fits = fits
tested_fits false p fits = tt

accepted_fits : (c : Call) (r : Reply) → CallFits c → IfSome (accepted_by c r) PostFits
accepted_fits (call.Post p) r fits = tested_fits (is_accepted r) p fits
accepted_fits (call.Barrier now) r fits = tt
accepted_fits (call.Unbarrier token) r fits = tt
accepted_fits (call.Remove f) r fits = tt
accepted_fits (call.Quit safe now) r fits = tt
accepted_fits (call.Next now) r fits = tt
accepted_fits (call.Advance now) r fits = tt
accepted_fits (call.Halt now) r fits = tt

posts_fit : (es : List Entry) → AllByRecursion EntryFits es → AllByRecursion PostFits (accepted_posts es)
posts_fit [] fits = tt
posts_fit (e ∷ es) fits = one_more PostFits (accepted_by e.call e.reply) (accepted_posts es) (accepted_fits e.call e.reply fits.0.0) (posts_fit es fits.1)

history_fits : (ps : List Segment) → AllByRecursion SegmentFits ps → AllByRecursion EntryFits (entries_of ps)
history_fits [] fits = tt
history_fits (p ∷ ps) fits = AllByRecursion-append EntryFits p.entries (entries_of ps) fits.0 (history_fits ps fits.1)

counts_fit : (fs : List Fate) → IsLong (length fs) → HasLimits (Fates (counted_fates fs))
counts_fit fs long =
    let d = count_by-le-length is_dispatched fs in
    let r = count_by-le-length is_removed fs in
    let x = count_by-le-length is_dropped fs in
    let s = count_by-le-length is_stranded fs in
    let q = count_by-le-length is_queued fs in
    (tt, (tt, (long, (tt, (omega (arith, long, d), (tt, (omega (arith, long, r), (tt, (omega (arith, long, x), (tt, (omega (arith, long, s), (tt, (omega (arith, long, q), tt)))))))))))))

-- ---- a journal and the frames

act_fits : (a : ActData) → ActFits a → Limited (map Act (acts_by a))
act_fits (act.Dispatch number now route) fits = tt
act_fits (act.Idle id kept) fits = (((tt, (fits, tt)), tt), tt)
act_fits (act.Event fd events mask) fits = (((tt, (fits.0, (fits.1, tt))), tt), tt)
act_fits (act.Vsync stamp) fits = tt
act_fits (act.Paint gauge value) fits = (((tt, (fits.0, (fits.1, tt))), tt), tt)

acts_fit : (acts : List ActData) → AllByRecursion ActFits acts → Limited (map Act (flat_map acts_by acts))
acts_fit [] fits = tt
acts_fit (a ∷ acts) fits = both Act (acts_by a) (flat_map acts_by acts) (act_fits a fits.0) (acts_fit acts fits.1)

posted_fit : (es : List FrameEntry) → AllByRecursion FrameEntryFits es → AllByRecursion CallbackFits (posted_in es)
posted_fit [] fits = tt
posted_fit (entry.Posted c ∷ es) fits = (fits.0, posted_fit es fits.1)
posted_fit (entry.Removed phase id token count ∷ es) fits = posted_fit es fits.1
posted_fit (entry.Begin vsync start time ∷ es) fits = posted_fit es fits.1
posted_fit (entry.Take phase now time ∷ es) fits = posted_fit es fits.1
posted_fit (entry.Ran n ∷ es) fits = posted_fit es fits.1

run_fits : (o : Option Callback) → IfSome o CallbackFits → Limited (map Run (option_map_or (λ c. run_of c ∷ []) o []))
run_fits None fits = tt
run_fits (Some c) fits = (((tt, (fits.0, (fits.1, tt))), tt), tt)

runs_fit : (cs : List Callback) (es : List FrameEntry) → AllByRecursion CallbackFits cs → Limited (map Run (runs_first cs es))
runs_fit cs [] all = tt
runs_fit cs (entry.Begin vsync start time ∷ es) all = tt
runs_fit cs (entry.Ran n ∷ es) all =
    both Run (option_map_or (λ c. run_of c ∷ []) (slice_get cs n) []) (runs_first cs es) (run_fits (slice_get cs n) (member cs n CallbackFits all)) (runs_fit cs es all)
runs_fit cs (entry.Posted c ∷ es) all = runs_fit cs es all
runs_fit cs (entry.Removed phase id token count ∷ es) all = runs_fit cs es all
runs_fit cs (entry.Take phase now time ∷ es) all = runs_fit cs es all

frames_fit : (cs : List Callback) (es : List FrameEntry) → AllByRecursion CallbackFits cs → AllByRecursion FrameEntryFits es → Limited (flat_map read_frame_lines (seen_frames cs es))
frames_fit cs [] all fits = tt
frames_fit cs (entry.Begin vsync start time ∷ es) all fits =
    (((tt, (fits.0, tt)), tt), AllByRecursion-append HasLimits (map Run (runs_first cs es)) (flat_map read_frame_lines (seen_frames cs es)) (runs_fit cs es all) (frames_fit cs es all fits.1))
frames_fit cs (entry.Ran n ∷ es) all fits = frames_fit cs es all fits.1
frames_fit cs (entry.Posted c ∷ es) all fits = frames_fit cs es all fits.1
frames_fit cs (entry.Removed phase id token count ∷ es) all fits = frames_fit cs es all fits.1
frames_fit cs (entry.Take phase now time ∷ es) all fits = frames_fit cs es all fits.1

-- ---- the whole report

looper_fits : (n : ℕ) (q : QueueRecord) (j : Journal) (f : FrameRecord) → IsLong n → QueueFits q → JournalFits j → FramesFit f → is_countable q ≡ true → Limited (read_looper_lines n (seen_looper q j f))
looper_fits n q j f number queue journal frames countable =
    let es = history_of q in
    let l = seen_looper q j f in
    let entries = history_fits q.segments queue in
    AllByRecursion-append HasLimits (Looper n ∷ map Past l.past ++ Fates l.fates ∷ map Act l.acts) (flat_map read_frame_lines l.frames)
    (((tt, (number, tt)), tt), AllByRecursion-append HasLimits (map Past l.past) (Fates l.fates ∷ map Act l.acts) (entries_fit (accepted_posts es) es (posts_fit es entries) entries) (counts_fit (fates es) (ltb-true (length (fates es)) (2 ^ 64) countable), acts_fit j.acts journal))
    (frames_fit (posted_in f.entries) f.entries (posted_fit f.entries frames) frames)

loopers_fit : (n : ℕ) (qs : List QueueRecord) (js : List Journal) (fs : List FrameRecord) → n + length qs ≤ 2 ^ 64 → AllByRecursion QueueFits qs → AllByRecursion JournalFits js → AllByRecursion FramesFit fs
    → list_all is_countable qs ≡ true → Limited (read_loopers_lines n (seen_loopers qs js fs))
loopers_fit n [] js fs few queues journals frames countable = tt
loopers_fit n (q ∷ qs) [] fs few queues journals frames countable = tt
loopers_fit n (q ∷ qs) (j ∷ js) [] few queues journals frames countable = tt
loopers_fit n (q ∷ qs) (j ∷ js) (f ∷ fs) few queues journals frames countable =
    let counts = and_parts (is_countable q) (list_all is_countable qs) countable in
    AllByRecursion-append HasLimits (read_looper_lines n (seen_looper q j f)) (read_loopers_lines (n + 1) (seen_loopers qs js fs))
    (looper_fits n q j f (omega (arith, few)) queues.0 journals.0 frames.0 counts.0)
    (loopers_fit (n + 1) qs js fs (omega (arith, few)) queues.1 journals.1 frames.1 counts.1)

edition_short : (n : ℕ) → IsEdition n → IsShort n
edition_short n (inl one) = omega (arith, one)
edition_short n (inr two) = omega (arith, two)

pub report_fits : (r : RunReport) → ReportFits r → IsEdition r.script.edition → list_all is_countable r.queues ≡ true → Limited (read_report_lines (seen r))
report_fits r fits edition countable =
    let few = fits.loopers in
    AllByRecursion-append HasLimits (Title r.script.edition ∷ read_loopers_lines 0 (seen_loopers r.queues r.journals r.frames)) (End ∷ [])
    (((tt, (edition_short r.script.edition edition, tt)), edition), loopers_fit 0 r.queues r.journals r.frames (omega (arith, few)) fits.queues fits.journals fits.frames countable) (((tt, tt), tt), tt)
