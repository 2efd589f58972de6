-- The script with two posts in free mode, over a clock that shows 5, 10, 15 and so on.
use Rattle.std.proofs.Common.{◌≡◌, ◌<◌, ℕ, zero, suc, ◌%◌, true, false, List, [], ◌∷◌, None, refl, lit<, lit≤, inl}
use Rattle.std.specs.Prelude.{codes, ◌==◌, map, slice_index_or}
use Rattle.std.specs.Fmt.{digits}
use Rattle.loop_model.specs.declared.call.Call.TheVariants as call
use Rattle.loop_model.specs.declared.reply.Reply.TheVariants as reply
use Rattle.loop_model.specs.declared.entry.Entry.{Entry}
use Rattle.loop_model.specs.Base.{empty_base}
use Rattle.loop_model.specs.Answers.{answer, clock, accepted_count, barrier_count, quit_place, has_disposed, has_halted}
use Rattle.loop_model.specs.Legal.{IsLegal, AreNumbered, made_count}
use Rattle.loop_model.specs.Live.{live}
use Rattle.loop_model.specs.Pick.{first_eligible, pick}
use Rattle.loop_model.specs.Fates.{fates}
use Rattle.frame_phases.specs.Frames.{lawful, all_allowed, is_allowed, owed_callbacks}
use Rattle.loop_model.specs.declared.journal.Act.{Act}
use Rattle.loop_model.specs.declared.journal.Journal.{Journal}
use Rattle.loop_model.specs.declared.record.QueueRecord.{QueueRecord}
use Rattle.run_model.specs.declared.report.Report.{Report}
use Rattle.run_model.specs.Control.{is_controlled, are_before_quit}
use Rattle.run_model.specs.Moments.{Mode}
use Rattle.run_model.specs.Parts.{AreOfClock, AreAsPlanned, all_entries}
use Rattle.run_model.specs.ByClock.{in_free_mode}
use Rattle.run_model.specs.Loopers.{asked_then, after_act, first_looper}
use Rattle.run_model.specs.FrameRecords.{timed_as_told}
use Rattle.run_model.proofs.AskedInTurn.{rising_sorted}
use Rattle.run_model.specs.Run.{IsRun, IsRecordOf, IsControlled, IsFrameRun, IsLooperRun, record_setting}
use Rattle.run_model.specs.Text.{report_text, report_lines}
use Rattle.run_model.proofs.Below.{each_below}
use Rattle.run_model.proofs.Table.{led}
use Rattle.run_model.proofs.Examples.{entry, message, journal, frames, page}
use Rattle.run_model.proofs.WorkedPosts.{two_posts}
use Rattle.run_model.proofs.NotRuns.{dispatch, look}
use Rattle.dash_script.specs.declared.script.Script.{Script}

abbrev pub script : Script
script = two_posts.script

abbrev pub mode : Mode
mode = in_free_mode (λ n. n % 5 == 0) 5

-- the entries of the run: the two posts, their looks, and the halt
abbrev pub first_post : ℕ → Entry
first_post when = entry 0 0 (call.Post (message 0 7 when None)) (reply.Accepted 0)

abbrev pub second_post : ℕ → Entry
second_post when = entry 0 1 (call.Post (message 0 8 when None)) (reply.Accepted 1)

abbrev pub halt : ℕ → Entry
halt now = entry 2 0 (call.Halt now) reply.Halted

abbrev entries : List Entry
entries = first_post 15 ∷ second_post 20 ∷ look 0 25 0 ∷ look 1 30 1 ∷ halt 40 ∷ []

-- the queue's record with these entries
abbrev pub queue_by : List Entry → QueueRecord
queue_by es = record { looper = 0; main = true; lockstep = false; senders = 3; segments = record { base = empty_base 3; entries = es } ∷ [] }

-- a report of this script, with this reading at the start, these entries and these acts
abbrev pub report_by : Script → ℕ → List Entry → List Act → Report
report_by s start es acts = record { script = s; queues = queue_by es ∷ []; journals = journal 0 acts ∷ []; frames = frames 0 [] ∷ []; start = start }

abbrev queue_0 : QueueRecord
queue_0 = queue_by entries

abbrev pub acts : List Act
acts = dispatch 0 25 ∷ dispatch 1 30 ∷ []

abbrev journal_0 : Journal
journal_0 = journal 0 acts

abbrev report : Report
report = report_by script 5 entries acts

legal : IsLegal (record_setting queue_0) (empty_base 3) entries
unfolding IsLegal answer clock accepted_count barrier_count quit_place has_disposed has_halted live first_eligible pick
legal =
    (record { reply = refl; timely = tt }, (record { reply = refl; timely = tt }, (record { reply = refl; timely = lit≤ tt }, (record { reply = refl; timely = lit≤ tt }, (record { reply = refl; timely = lit≤ tt }, tt)))))

numbered : AreNumbered (record_setting queue_0) (empty_base 3) entries
unfolding AreNumbered made_count
numbered =
    (record { known = lit< tt; counted = refl; controller = λ h. cc }, (record { known = lit< tt; counted = refl; controller = λ h. cc }, (record { known = lit< tt; counted = refl; controller = λ h. cc }, (record { known = lit< tt; counted = refl; controller = λ h. cc }, (record { known = lit< tt; counted = refl; controller = λ h. refl }, tt)))))

clocked : AreOfClock mode all_entries entries
clocked =
    (tt, (tt, (inl (record { reading = 30; shown = refl; since = refl }), (inl (record { reading = 35; shown = refl; since = refl }), (inl (record { reading = 45; shown = refl; since = refl }), tt)))))

planned : (thread : ℕ) → thread < 1 → AreAsPlanned mode script thread 0 entries
planned =
    each_below 1 (λ thread. AreAsPlanned mode script thread 0 entries) (tt, (record { uptime = 10; allowed = (lit≤ tt, record { reading = 15; shown = refl; since = refl }); call = refl; no_earlier = tt }, (record { uptime = 20; allowed = (lit≤ tt, record { reading = 25; shown = refl; since = refl }); call = refl; no_earlier = tt }, tt)))

history : IsRecordOf mode all_entries script queue_0
history = record { main = refl; lockstep = refl; senders = refl; chain = (refl, tt); legal = legal; numbered = numbered; clocked = clocked }

controlled : IsControlled script queue_0
unfolding is_controlled
controlled = refl

frame_run : IsFrameRun script (frames 0 [])
unfolding lawful all_allowed is_allowed owed_callbacks
frame_run = record {
  interval = refl;
  phases = refl;
  lawful = refl;
  stamps = refl;
}

-- no line and no act asks the choreographer for anything
none_asked : (k : ℕ) → [] ≡ slice_index_or (map (map (timed_as_told false)) (asked_then script 0 (first_looper script))) k []
none_asked zero = refl
none_asked (suc zero) = refl
none_asked (suc (suc zero)) = refl
none_asked (suc (suc (suc k))) = refl

looper_run : IsLooperRun mode script report.queues queue_0 journal_0 (frames 0 [])
unfolding after_act
looper_run = record {
  final = led script 0 entries [] [] (first_looper script) journal_0.acts;
  acts = (None, (record { accepted = refl; starts = refl; awaited = refl; place = refl; stamped = refl; painted = refl }, (None, (record { accepted = refl; starts = refl; awaited = refl; place = refl; stamped = refl; painted = refl }, refl))));
  settled = refl;
  dispatches = refl;
  disposed_at = 0;
  calls = ((record { call = refl; reply = refl }, (record { call = refl; reply = refl }, tt)), tt);
  asked = record { timed = []; asks_are = refl; in_turn = rising_sorted 0 [] tt; parted = ([], refl, none_asked) };
  on_time = tt;
  pulses = tt;
  pulses_first = tt;
}

pub is_run : IsRun mode script report
unfolding are_before_quit
is_run = record {
  report = record { script = refl; queues = refl; journals = refl; frames = refl };
  records = record { mode = refl; start = refl; histories = (history, tt) };
  planned = (planned, tt);
  controls = (controlled, tt);
  frames = (frame_run, tt);
  loopers = (looper_run, tt);
  timely = record { halted = refl; before_quit = (refl, tt); histories = tt; moves = tt };
}

pub printed : report_text report ≡ page (codes "report 1" ∷ codes "looper 0" ∷ codes "25 dispatch 0 0 7" ∷ codes "30 dispatch 1 0 8" ∷ codes "fates accepted 2 dispatched 2 removed 0 dropped 0 stranded 0 queued 0" ∷ codes "end" ∷ [])
unfolding report_text report_lines fates digits
printed = refl
