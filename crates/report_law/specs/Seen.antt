-- What a run tells to a reader of its report.
use Rattle.std.specs.Prelude.{ℕ, List, [], ◌∷◌, ◌++◌, Option, Some, None, count_by, length, slice_get, map}
use Rattle.std.specs.List.{flat_map, filter_map, zip}
use Rattle.std.specs.Option.{option_map_or}
use Rattle.loop_model.specs.declared.post.Post.{Post as PostData}
use Rattle.loop_model.specs.declared.call.Call.{Call}
use Rattle.loop_model.specs.declared.call.Call.TheVariants.{Post, Unbarrier, Quit, Next}
use Rattle.loop_model.specs.declared.reply.Reply.{Reply}
use Rattle.loop_model.specs.declared.reply.Reply.TheVariants as reply
use Rattle.loop_model.specs.declared.entry.Entry.{Entry}
use Rattle.loop_model.specs.declared.fate.Fate.{Fate}
use Rattle.loop_model.specs.declared.journal.Act.{Act as ActData}
use Rattle.loop_model.specs.declared.journal.Act.TheVariants as act
use Rattle.loop_model.specs.declared.journal.Journal.{Journal}
use Rattle.loop_model.specs.declared.record.QueueRecord.{QueueRecord}
use Rattle.loop_model.specs.Posts.{accepted_posts}
use Rattle.loop_model.specs.Fates.{fates, is_queued, is_dispatched, is_removed, is_dropped, is_stranded}
use Rattle.frame_phases.specs.declared.entry.Callback.{Callback}
use Rattle.frame_phases.specs.declared.entry.FrameEntry.{FrameEntry}
use Rattle.frame_phases.specs.declared.entry.FrameEntry.TheVariants as entry
use Rattle.frame_phases.specs.declared.entry.FrameRecord.{FrameRecord}
use Rattle.run_model.specs.declared.report.Report.{Report as RunReport}
use Rattle.run_model.specs.Planned.{history_of}
use Rattle.run_model.specs.Text.{posted_callback}
use Rattle.run_picture.specs.declared.report.Subject.{Subject}
use Rattle.run_picture.specs.declared.report.Subject.TheVariants as subject
use Rattle.run_picture.specs.declared.report.Past.{Past}
use Rattle.run_picture.specs.declared.report.Past.TheVariants as past
use Rattle.run_picture.specs.declared.report.Fates.{Fates}
use Rattle.run_picture.specs.declared.report.Act.{Act}
use Rattle.run_picture.specs.declared.report.Act.TheVariants as seen_act
use Rattle.run_picture.specs.declared.report.Run.{Run}
use Rattle.run_picture.specs.declared.report.Frame.{Frame}
use Rattle.run_picture.specs.declared.report.Looper.{Looper}
use Rattle.run_picture.specs.declared.report.Report.{Report}

-- a message by its callback, where it has one, or else by its what
abbrev pub subject_of : ℕ → Option ℕ → Subject
subject_of what None = subject.What what
subject_of what (Some c) = subject.Callback c

-- what an entry tells, by the accepted posts of the history
abbrev pub past_by : List PostData → Call → Reply → List Past
past_by posts (Next now) (reply.Dispatched n) =
    option_map_or (λ p. past.Dispatch now n p.handler (subject_of p.what p.callback) ∷ []) (slice_get posts n) []
past_by posts (Post p) (reply.Refused place) = past.Refused p.handler (subject_of p.what p.callback) place ∷ []
past_by posts (Unbarrier token) reply.NotPosted = past.NotPosted token ∷ []
past_by posts (Quit safe now) reply.NotAllowed = past.NotAllowed ∷ []
past_by posts (Quit safe now) (reply.AlreadyQuit place) = past.AlreadyQuit place ∷ []
past_by posts _ _ = []

abbrev pub past_of : List Entry → List Past
past_of es = flat_map (λ e. past_by (accepted_posts es) e.call e.reply) es

abbrev pub counted_fates : List Fate → Fates
counted_fates fs = record {
  accepted = length fs;
  dispatched = count_by is_dispatched fs;
  removed = count_by is_removed fs;
  dropped = count_by is_dropped fs;
  stranded = count_by is_stranded fs;
  queued = count_by is_queued fs;
}

-- what an act tells
abbrev pub acts_by : ActData → List Act
acts_by (act.Idle id kept) = seen_act.Idle id ∷ []
acts_by (act.Event fd events mask) = seen_act.Event fd events ∷ []
acts_by (act.Paint gauge value) = seen_act.Paint gauge value ∷ []
acts_by _ = []

abbrev pub run_of : Callback → Run
run_of c = record { phase = c.phase; id = c.id }

-- the callbacks that ran up to the next frame, by the callbacks in the order of posting
abbrev pub runs_first : List Callback → List FrameEntry → List Run
runs_first cs [] = []
runs_first cs (entry.Begin vsync start time ∷ es) = []
runs_first cs (entry.Ran n ∷ es) = option_map_or (λ c. run_of c ∷ []) (slice_get cs n) [] ++ runs_first cs es
runs_first cs (entry.Posted c ∷ es) = runs_first cs es
runs_first cs (entry.Removed phase id token count ∷ es) = runs_first cs es
runs_first cs (entry.Take phase now time ∷ es) = runs_first cs es

-- the frames, each with the callbacks that ran up to the next one
abbrev pub seen_frames : List Callback → List FrameEntry → List Frame
seen_frames cs [] = []
seen_frames cs (entry.Begin vsync start time ∷ es) = record { time = time; runs = runs_first cs es } ∷ seen_frames cs es
seen_frames cs (entry.Ran n ∷ es) = seen_frames cs es
seen_frames cs (entry.Posted c ∷ es) = seen_frames cs es
seen_frames cs (entry.Removed phase id token count ∷ es) = seen_frames cs es
seen_frames cs (entry.Take phase now time ∷ es) = seen_frames cs es

abbrev pub posted_in : List FrameEntry → List Callback
posted_in es = filter_map posted_callback es

-- what a looper tells
abbrev pub seen_looper : QueueRecord → Journal → FrameRecord → Looper
seen_looper q j f = record {
  past = past_of (history_of q);
  fates = counted_fates (fates (history_of q));
  acts = flat_map acts_by j.acts;
  frames = seen_frames (posted_in f.entries) f.entries;
}

abbrev pub seen_loopers : List QueueRecord → List Journal → List FrameRecord → List Looper
seen_loopers qs js fs = map (λ (q, (j, f)). seen_looper q j f) (zip qs (zip js fs))

-- what a run tells
abbrev pub seen : RunReport → Report
seen r = record { edition = r.script.edition; loopers = seen_loopers r.queues r.journals r.frames }
