-- The lines that are printed of a run are the lines of what it tells.
use Rattle.std.proofs.Common.{◌≡◌, ◌+◌, ℕ, List, [], ◌∷◌, ◌++◌, map, Option, Some, None, refl, sym, ap, ◌∙◌, append_assoc}
use Rattle.std.specs.Prelude.{codes, slice_get}
use Rattle.std.specs.List.{flat_map, AllByRecursion}
use Rattle.std.specs.Option.{option_map_or}
use Rattle.std.specs.Fmt.{decimal}
use Rattle.std.proofs.lemmas.List.{map-append}
use Rattle.loop_model.specs.declared.post.Post.{Post as PostData}
use Rattle.loop_model.specs.declared.call.Call.{Call}
use Rattle.loop_model.specs.declared.call.Call.TheVariants as call
use Rattle.loop_model.specs.declared.reply.Reply.{Reply}
use Rattle.loop_model.specs.declared.reply.Reply.TheVariants as reply
use Rattle.loop_model.specs.declared.entry.Entry.{Entry}
use Rattle.loop_model.specs.declared.journal.Act.{Act as ActData}
use Rattle.loop_model.specs.declared.journal.Act.TheVariants as act
use Rattle.loop_model.specs.declared.journal.Journal.{Journal}
use Rattle.loop_model.specs.declared.record.QueueRecord.{QueueRecord}
use Rattle.loop_model.specs.Posts.{accepted_posts}
use Rattle.loop_model.specs.Fates.{fates}
use Rattle.line_words.specs.Written.{Fixed, Long, spelled, spelled_words}
use Rattle.frame_phases.specs.declared.entry.Callback.{Callback}
use Rattle.frame_phases.specs.declared.entry.FrameEntry.{FrameEntry}
use Rattle.frame_phases.specs.declared.entry.FrameEntry.TheVariants as entry
use Rattle.frame_phases.specs.declared.entry.FrameRecord.{FrameRecord}
use Rattle.run_model.specs.declared.report.Report.{Report as RunReport}
use Rattle.run_model.specs.Planned.{history_of}
use Rattle.run_model.specs.Text as printed
use Rattle.run_picture.specs.declared.report.Past.{Past as PastData}
use Rattle.run_picture.specs.declared.report.Past.TheVariants as seen_past
use Rattle.run_picture.specs.declared.report.Act.{Act as SeenAct}
use Rattle.run_picture.specs.declared.report.Run.{Run as RunData}
use Rattle.run_picture.specs.declared.line.ReportLine.{ReportLine}
use Rattle.run_picture.specs.declared.line.ReportLine.TheVariants.{Title, Looper, Past, Fates, Act, Run, End}
use Rattle.run_picture.specs.Text.{subject_words, past_words, act_words, report_line_words, report_line_text, read_frame_lines, read_looper_lines, read_loopers_lines, read_report_lines, read_report_text}
use Rattle.report_law.specs.Seen.{subject_of, past_by, past_of, counted_fates, acts_by, run_of, runs_first, seen_frames, posted_in, seen_looper, seen_loopers, seen}
use Rattle.report_law.specs.Laws.{AreCounted, IsFramed}

-- the words of a line, as they are spelled
abbrev spelled_past : PastData → List (List ℕ)
spelled_past p = spelled_words (past_words p)

abbrev spelled_act : SeenAct → List (List ℕ)
spelled_act a = spelled_words (act_words a)

abbrev spelled_line : ReportLine → List (List ℕ)
spelled_line l = spelled_words (report_line_words l)

-- ---- a queue's history

subject_same : (what : ℕ) (o : Option ℕ) → spelled_words (subject_words (subject_of what o)) ≡ option_map_or (λ c. codes "callback" ∷ decimal c ∷ []) o (decimal what ∷ [])
subject_same what None = refl
subject_same what (Some c) = refl

dispatch_same : (now n : ℕ) (o : Option PostData)
    → map spelled_past (option_map_or (λ p. seen_past.Dispatch now n p.handler (subject_of p.what p.callback) ∷ []) o [])
    ≡ option_map_or (λ p. (decimal now ∷ codes "dispatch" ∷ decimal n ∷ printed.post_subject p) ∷ []) o []
dispatch_same now n None = refl
dispatch_same now n (Some p) = ap (λ ws. (decimal now ∷ codes "dispatch" ∷ decimal n ∷ decimal p.handler ∷ ws) ∷ []) (subject_same p.what p.callback)

past_same : (posts : List PostData) (c : Call) (r : Reply) → map spelled_past (past_by posts c r) ≡ printed.call_lines posts c r
past_same posts (call.Post p) (reply.Accepted n) = refl
past_same posts (call.Post p) (reply.Refused place) =
    let subject = subject_words (subject_of p.what p.callback) in
    let quit = Fixed (codes "quit") ∷ Long place ∷ [] in
    ap (λ ws. (codes "refused" ∷ decimal p.handler ∷ ws) ∷ []) (map-append spelled subject quit)
    ∙ ap (λ ws. ((codes "refused" ∷ decimal p.handler ∷ ws) ++ codes "quit" ∷ decimal place ∷ []) ∷ []) (subject_same p.what p.callback)
past_same posts (call.Post p) (reply.Token t) = refl
past_same posts (call.Post p) reply.Unbarriered = refl
past_same posts (call.Post p) reply.NotPosted = refl
past_same posts (call.Post p) (reply.Removed k) = refl
past_same posts (call.Post p) reply.QuitDone = refl
past_same posts (call.Post p) (reply.AlreadyQuit place) = refl
past_same posts (call.Post p) reply.NotAllowed = refl
past_same posts (call.Post p) (reply.Dispatched n) = refl
past_same posts (call.Post p) reply.Disposed = refl
past_same posts (call.Post p) reply.Advanced = refl
past_same posts (call.Post p) reply.Halted = refl
past_same posts (call.Barrier now) r = refl
past_same posts (call.Unbarrier token) (reply.Accepted n) = refl
past_same posts (call.Unbarrier token) (reply.Refused place) = refl
past_same posts (call.Unbarrier token) (reply.Token t) = refl
past_same posts (call.Unbarrier token) reply.Unbarriered = refl
past_same posts (call.Unbarrier token) reply.NotPosted = refl
past_same posts (call.Unbarrier token) (reply.Removed k) = refl
past_same posts (call.Unbarrier token) reply.QuitDone = refl
past_same posts (call.Unbarrier token) (reply.AlreadyQuit place) = refl
past_same posts (call.Unbarrier token) reply.NotAllowed = refl
past_same posts (call.Unbarrier token) (reply.Dispatched n) = refl
past_same posts (call.Unbarrier token) reply.Disposed = refl
past_same posts (call.Unbarrier token) reply.Advanced = refl
past_same posts (call.Unbarrier token) reply.Halted = refl
past_same posts (call.Remove f) r = refl
past_same posts (call.Quit safe now) (reply.Accepted n) = refl
past_same posts (call.Quit safe now) (reply.Refused place) = refl
past_same posts (call.Quit safe now) (reply.Token t) = refl
past_same posts (call.Quit safe now) reply.Unbarriered = refl
past_same posts (call.Quit safe now) reply.NotPosted = refl
past_same posts (call.Quit safe now) (reply.Removed k) = refl
past_same posts (call.Quit safe now) reply.QuitDone = refl
past_same posts (call.Quit safe now) (reply.AlreadyQuit place) = refl
past_same posts (call.Quit safe now) reply.NotAllowed = refl
past_same posts (call.Quit safe now) (reply.Dispatched n) = refl
past_same posts (call.Quit safe now) reply.Disposed = refl
past_same posts (call.Quit safe now) reply.Advanced = refl
past_same posts (call.Quit safe now) reply.Halted = refl
past_same posts (call.Next now) (reply.Accepted n) = refl
past_same posts (call.Next now) (reply.Refused place) = refl
past_same posts (call.Next now) (reply.Token t) = refl
past_same posts (call.Next now) reply.Unbarriered = refl
past_same posts (call.Next now) reply.NotPosted = refl
past_same posts (call.Next now) (reply.Removed k) = refl
past_same posts (call.Next now) reply.QuitDone = refl
past_same posts (call.Next now) (reply.AlreadyQuit place) = refl
past_same posts (call.Next now) reply.NotAllowed = refl
past_same posts (call.Next now) (reply.Dispatched n) = dispatch_same now n (slice_get posts n)
past_same posts (call.Next now) reply.Disposed = refl
past_same posts (call.Next now) reply.Advanced = refl
past_same posts (call.Next now) reply.Halted = refl
past_same posts (call.Advance now) r = refl
past_same posts (call.Halt now) r = refl

history_same : (posts : List PostData) (es : List Entry)
    → map spelled_past (flat_map (λ e. past_by posts e.call e.reply) es) ≡ flat_map (λ e. printed.call_lines posts e.call e.reply) es
history_same posts [] = refl
history_same posts (e ∷ es) =
    map-append spelled_past (past_by posts e.call e.reply) (flat_map (λ e. past_by posts e.call e.reply) es)
    ∙ (ap (λ ws. ws ++ map spelled_past (flat_map (λ e. past_by posts e.call e.reply) es)) (past_same posts e.call e.reply)
    ∙ ap (λ ws. printed.call_lines posts e.call e.reply ++ ws) (history_same posts es))

past_through : (ps : List PastData) → map spelled_line (map Past ps) ≡ map spelled_past ps
past_through [] = refl
past_through (p ∷ ps) = ap (λ ws. spelled_past p ∷ ws) (past_through ps)

-- ---- a journal

act_same : (a : ActData) → map spelled_act (acts_by a) ≡ printed.act_lines a
act_same (act.Dispatch number now route) = refl
act_same (act.Idle id kept) = refl
act_same (act.Event fd events mask) = refl
act_same (act.Vsync stamp) = refl
act_same (act.Paint gauge value) = refl

acts_same : (acts : List ActData) → map spelled_act (flat_map acts_by acts) ≡ flat_map printed.act_lines acts
acts_same [] = refl
acts_same (a ∷ more) =
    map-append spelled_act (acts_by a) (flat_map acts_by more)
    ∙ (ap (λ ws. ws ++ map spelled_act (flat_map acts_by more)) (act_same a) ∙ ap (λ ws. printed.act_lines a ++ ws) (acts_same more))

acts_through : (acts : List SeenAct) → map spelled_line (map Act acts) ≡ map spelled_act acts
acts_through [] = refl
acts_through (a ∷ more) = ap (λ ws. spelled_act a ∷ ws) (acts_through more)

-- ---- a choreographer's frames

abbrev run_line : RunData → List (List ℕ)
run_line r = spelled_line (Run r)

run_same : (o : Option Callback) → map run_line (option_map_or (λ c. run_of c ∷ []) o []) ≡ option_map_or (λ c. (codes "run" ∷ decimal c.phase ∷ decimal c.id ∷ []) ∷ []) o []
run_same None = refl
run_same (Some c) = refl

runs_through : (rs : List RunData) → map spelled_line (map Run rs) ≡ map run_line rs
runs_through [] = refl
runs_through (r ∷ rs) = ap (λ ws. run_line r ∷ ws) (runs_through rs)

frames_same : (cs : List Callback) (es : List FrameEntry)
    → map run_line (runs_first cs es) ++ map spelled_line (flat_map read_frame_lines (seen_frames cs es)) ≡ flat_map (printed.frame_entry_lines cs) es
frames_same cs [] = refl
frames_same cs (entry.Begin vsync start time ∷ es) =
    ap (λ ws. (codes "frame" ∷ decimal time ∷ []) ∷ ws)
    (map-append spelled_line (map Run (runs_first cs es)) (flat_map read_frame_lines (seen_frames cs es))
    ∙ (ap (λ ws. ws ++ map spelled_line (flat_map read_frame_lines (seen_frames cs es))) (runs_through (runs_first cs es)) ∙ frames_same cs es))
frames_same cs (entry.Ran n ∷ es) =
    let first = option_map_or (λ c. run_of c ∷ []) (slice_get cs n) [] in
    let rest = map spelled_line (flat_map read_frame_lines (seen_frames cs es)) in
    ap (λ ws. ws ++ rest) (map-append run_line first (runs_first cs es))
    ∙ (append_assoc (map run_line first) (map run_line (runs_first cs es)) rest
    ∙ (ap (λ ws. ws ++ (map run_line (runs_first cs es) ++ rest)) (run_same (slice_get cs n))
    ∙ ap (λ ws. option_map_or (λ c. (codes "run" ∷ decimal c.phase ∷ decimal c.id ∷ []) ∷ []) (slice_get cs n) [] ++ ws) (frames_same cs es)))
frames_same cs (entry.Posted c ∷ es) = frames_same cs es
frames_same cs (entry.Removed phase id token count ∷ es) = frames_same cs es
frames_same cs (entry.Take phase now time ∷ es) = frames_same cs es

framed_same : (cs : List Callback) (es : List FrameEntry) → runs_first cs es ≡ []
    → map spelled_line (flat_map read_frame_lines (seen_frames cs es)) ≡ flat_map (printed.frame_entry_lines cs) es
framed_same cs es framed =
    ap (λ rs. map run_line rs ++ map spelled_line (flat_map read_frame_lines (seen_frames cs es))) (sym framed) ∙ frames_same cs es

-- ---- a looper

shaped : (h f : ReportLine) (xs ys zs : List ReportLine)
    → map spelled_line (h ∷ xs ++ f ∷ ys ++ zs) ≡ spelled_line h ∷ map spelled_line xs ++ spelled_line f ∷ map spelled_line ys ++ map spelled_line zs
shaped h f xs ys zs =
    map-append spelled_line (h ∷ xs ++ f ∷ ys) zs ∙ ap (λ l. l ++ map spelled_line zs) (map-append spelled_line (h ∷ xs) (f ∷ ys))

-- parts of a looper's lines that are equal
joined : (h f : List (List ℕ)) (xs us ys vs zs ws : List (List (List ℕ))) → xs ≡ us → ys ≡ vs → zs ≡ ws
    → h ∷ xs ++ f ∷ ys ++ zs ≡ h ∷ us ++ f ∷ vs ++ ws
joined h f xs us ys vs zs ws a b c =
    ap (λ l. h ∷ l ++ f ∷ ys ++ zs) a ∙ (ap (λ l. h ∷ us ++ f ∷ l ++ zs) b ∙ ap (λ l. h ∷ us ++ f ∷ vs ++ l) c)

looper_same : (q : QueueRecord) (j : Journal) (f : FrameRecord) → IsFramed f
    → map spelled_line (read_looper_lines q.looper (seen_looper q j f)) ≡ printed.looper_lines q j f
looper_same q j f framed =
    let es = history_of q in
    let ps = past_of es in
    let acts = flat_map acts_by j.acts in
    let fs = flat_map read_frame_lines (seen_frames (posted_in f.entries) f.entries) in
    shaped (Looper q.looper) (Fates (counted_fates (fates es))) (map Past ps) (map Act acts) fs
    ∙ joined (codes "looper" ∷ decimal q.looper ∷ []) (printed.fates_line (fates es))
    (map spelled_line (map Past ps)) (printed.history_lines es)
    (map spelled_line (map Act acts)) (flat_map printed.act_lines j.acts)
    (map spelled_line fs) (printed.frame_lines f.entries)
    (past_through ps ∙ history_same (accepted_posts es) es)
    (acts_through acts ∙ acts_same j.acts)
    (framed_same (posted_in f.entries) f.entries framed)

numbered_same : (n : ℕ) (q : QueueRecord) (j : Journal) (f : FrameRecord) → q.looper ≡ n → IsFramed f
    → map spelled_line (read_looper_lines n (seen_looper q j f)) ≡ printed.looper_lines q j f
numbered_same n q j f at framed = ap (λ k. map spelled_line (read_looper_lines k (seen_looper q j f))) (sym at) ∙ looper_same q j f framed

-- ---- a report

loopers_same : (n : ℕ) (qs : List QueueRecord) (js : List Journal) (fs : List FrameRecord) → AreCounted n qs → AllByRecursion IsFramed fs
    → map spelled_line (read_loopers_lines n (seen_loopers qs js fs)) ≡ printed.loopers_lines qs js fs
loopers_same n [] js fs counted framed = refl
loopers_same n (q ∷ qs) [] fs counted framed = refl
loopers_same n (q ∷ qs) (j ∷ js) [] counted framed = refl
loopers_same n (q ∷ qs) (j ∷ js) (f ∷ fs) counted framed =
    map-append spelled_line (read_looper_lines n (seen_looper q j f)) (read_loopers_lines (n + 1) (seen_loopers qs js fs))
    ∙ (ap (λ ws. ws ++ map spelled_line (read_loopers_lines (n + 1) (seen_loopers qs js fs))) (numbered_same n q j f counted.0 framed.0)
    ∙ ap (λ ws. printed.looper_lines q j f ++ ws) (loopers_same (n + 1) qs js fs counted.1 framed.1))

lines_same : (r : RunReport) → AreCounted 0 r.queues → AllByRecursion IsFramed r.frames → map spelled_line (read_report_lines (seen r)) ≡ printed.report_lines r
unfolding printed.report_lines
lines_same r counted framed =
    map-append spelled_line (Title r.script.edition ∷ read_loopers_lines 0 (seen_loopers r.queues r.journals r.frames)) (End ∷ [])
    ∙ ap (λ ws. ((codes "report" ∷ decimal r.script.edition ∷ []) ∷ ws) ++ (codes "end" ∷ []) ∷ []) (loopers_same 0 r.queues r.journals r.frames counted framed)

text_through : (ls : List ReportLine) → flat_map report_line_text ls ≡ flat_map printed.line_text (map spelled_line ls)
unfolding report_line_text
text_through [] = refl
text_through (l ∷ ls) = ap (λ b. printed.line_text (spelled_line l) ++ b) (text_through ls)

pub text_same : (r : RunReport) → AreCounted 0 r.queues → AllByRecursion IsFramed r.frames → printed.report_text r ≡ read_report_text (seen r)
unfolding printed.report_text
text_same r counted framed = sym (text_through (read_report_lines (seen r)) ∙ ap (flat_map printed.line_text) (lines_same r counted framed))
