-- How a report is printed.
use Rattle.std.specs.Prelude.{ℕ, Bool, List, [], ◌∷◌, ◌++◌, Option, Some, None, count_by, codes, length, slice_get}
use Rattle.std.specs.List.{flat_map, filter_map, zip}
use Rattle.std.specs.Option.{option_map_or}
use Rattle.std.specs.Fmt.{decimal}
use Rattle.loop_model.specs.declared.post.Post.{Post as PostData}
use Rattle.loop_model.specs.declared.call.Call.{Call}
use Rattle.loop_model.specs.declared.call.Call.TheVariants.{Post, Unbarrier, Quit, Next}
use Rattle.loop_model.specs.declared.reply.Reply.{Reply}
use Rattle.loop_model.specs.declared.reply.Reply.TheVariants.{Refused, NotPosted, AlreadyQuit, NotAllowed, Dispatched}
use Rattle.loop_model.specs.declared.entry.Entry.{Entry}
use Rattle.loop_model.specs.declared.fate.Fate.{Fate}
use Rattle.loop_model.specs.Posts.{accepted_posts}
use Rattle.loop_model.specs.Fates.{fates, is_queued, is_dispatched, is_removed, is_dropped, is_stranded}
use Rattle.loop_model.specs.declared.journal.Act.{Act}
use Rattle.loop_model.specs.declared.journal.Act.TheVariants.{Idle, Event, Paint}
use Rattle.loop_model.specs.declared.journal.Journal.{Journal}
use Rattle.loop_model.specs.declared.record.QueueRecord.{QueueRecord}
pub use Rattle.line_words.specs.Words.{LineWords, line as line_text}
use Rattle.frame_phases.specs.declared.entry.Callback.{Callback}
use Rattle.frame_phases.specs.declared.entry.FrameEntry.{FrameEntry}
use Rattle.frame_phases.specs.declared.entry.FrameEntry.TheVariants.{Posted, Begin, Ran}
use Rattle.frame_phases.specs.declared.entry.FrameRecord.{FrameRecord}
use Rattle.run_model.specs.declared.report.Report.{Report}
use Rattle.run_model.specs.Planned.{history_of}

-- a message's handler, and its number or its callback
abbrev pub post_subject : PostData → LineWords
post_subject p = decimal p.handler ∷ option_map_or (λ c. codes "callback" ∷ decimal c ∷ []) p.callback (decimal p.what ∷ [])

-- the lines of a history: each entry has none or one, by the accepted posts
abbrev pub call_lines : List PostData → Call → Reply → List LineWords
call_lines posts (Next now) (Dispatched n) = option_map_or (λ p. (decimal now ∷ codes "dispatch" ∷ decimal n ∷ post_subject p) ∷ []) (slice_get posts n) []
call_lines posts (Post p) (Refused place) = ((codes "refused" ∷ post_subject p) ++ codes "quit" ∷ decimal place ∷ []) ∷ []
call_lines posts (Unbarrier token) NotPosted = (codes "not-posted" ∷ decimal token ∷ []) ∷ []
call_lines posts (Quit safe now) NotAllowed = (codes "not-allowed" ∷ []) ∷ []
call_lines posts (Quit safe now) (AlreadyQuit place) = (codes "already-quit" ∷ decimal place ∷ []) ∷ []
call_lines posts _ _ = []

abbrev pub history_lines : List Entry → List LineWords
history_lines es = flat_map (λ e. call_lines (accepted_posts es) e.call e.reply) es

-- how many accepted posts have which fate
abbrev pub fate_count : (Fate → Bool) → List Fate → List ℕ
fate_count test fs = decimal (count_by test fs)

abbrev pub fates_line : List Fate → LineWords
fates_line fs =
    codes "fates" ∷ codes "accepted" ∷ decimal (length fs) ∷ codes "dispatched" ∷ fate_count is_dispatched fs ∷ codes "removed" ∷ fate_count is_removed fs
    ∷ codes "dropped" ∷ fate_count is_dropped fs ∷ codes "stranded" ∷ fate_count is_stranded fs ∷ codes "queued" ∷ fate_count is_queued fs ∷ []

abbrev pub act_lines : Act → List LineWords
act_lines (Idle id kept) = (codes "idle" ∷ decimal id ∷ []) ∷ []
act_lines (Event fd events mask) = (codes "event" ∷ decimal fd ∷ decimal events ∷ []) ∷ []
act_lines (Paint gauge value) = (codes "paint" ∷ decimal gauge ∷ decimal value ∷ []) ∷ []
act_lines _ = []

-- the lines of a frame history: each entry has none or one, by the callbacks in the order of posting
abbrev pub posted_callback : FrameEntry → Option Callback
posted_callback (Posted c) = Some c
posted_callback _ = None

abbrev pub frame_entry_lines : List Callback → FrameEntry → List LineWords
frame_entry_lines cs (Begin vsync start time) = (codes "frame" ∷ decimal time ∷ []) ∷ []
frame_entry_lines cs (Ran n) = option_map_or (λ c. (codes "run" ∷ decimal c.phase ∷ decimal c.id ∷ []) ∷ []) (slice_get cs n) []
frame_entry_lines cs _ = []

abbrev pub frame_lines : List FrameEntry → List LineWords
frame_lines fs = flat_map (frame_entry_lines (filter_map posted_callback fs)) fs

-- the lines of a looper, and of all loopers in order
abbrev pub looper_lines : QueueRecord → Journal → FrameRecord → List LineWords
looper_lines q j f =
    (codes "looper" ∷ decimal q.looper ∷ []) ∷ history_lines (history_of q) ++ fates_line (fates (history_of q)) ∷ flat_map act_lines j.acts
    ++ frame_lines f.entries

abbrev pub loopers_lines : List QueueRecord → List Journal → List FrameRecord → List LineWords
loopers_lines qs js fs = flat_map (λ (q, (j, f)). looper_lines q j f) (zip qs (zip js fs))

-- the lines of a report, and its text
unfoldable pub report_lines : Report → List LineWords
report_lines r =
    (codes "report" ∷ decimal r.script.edition ∷ []) ∷ loopers_lines r.queues r.journals r.frames ++ (codes "end" ∷ []) ∷ []

unfoldable pub report_text : Report → List ℕ
report_text r = flat_map line_text (report_lines r)
