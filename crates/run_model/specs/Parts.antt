-- Parts of the definitions of a run, which are written out there, by the names that proofs and the contracts of the crates above use.
use Rattle.std.specs.Prelude.{ℕ, ◌==◌, Bool, true, ◌&&◌, ◌||◌, not, nat_lt, List, [], ◌∷◌, Option, count_by, if◌then◌else◌, ◌≡◌, map, ◌+◌, length, filter}
use Rattle.std.specs.Prelude.{codes, slice_get, false, take, drop, reverse, ◌++◌}
use Rattle.std.specs.List.{list_any, list_all, range_with_len, before_first}
use Rattle.std.specs.Fmt.{decimal}
use Rattle.std.specs.Option.{option_map_or}
use Rattle.loop_model.specs.declared.entry.Entry.{Entry}
use Rattle.loop_model.specs.Entries.{moment_of, is_quit_done, is_disposed}
use Rattle.loop_model.specs.Base.{empty_base}
use Rattle.loop_model.specs.Answers.{has_disposed}
use Rattle.loop_model.specs.declared.record.QueueRecord.{QueueRecord}
use Rattle.loop_model.specs.declared.post.Post.{Post as PostData}
use Rattle.line_words.specs.Words.{LineWords}
use Rattle.frame_phases.specs.declared.entry.FrameEntry.{FrameEntry}
use Rattle.dash_script.specs.declared.script.Script.{Script}
use Rattle.dash_script.specs.declared.script.Block.{Block}
use Rattle.run_model.specs.Control.{is_call_in_time, is_quit, is_advance, is_fresh, befores_from, befores, Before, InBlock, are_on_time, are_before_quit}
use Rattle.run_model.specs.FrameRecords.{is_begin, place_after, frames_after}
use Rattle.run_model.specs.Loopers.{LooperState, GaugeState, SentCall, starts_frame, gauge_moved}
use Rattle.run_model.specs.Planned.{TimedCommand, IsPlanned, lines_on, lines_of, labels_on, history_of, AreFor, controller, entries_by, times_on}
use Rattle.run_model.specs.Text.{post_subject}
use Rattle.run_model.specs.Moments.{Mode, IfFree, AreOfClockAfter}
use Rattle.run_model.specs.Run.{has_called_before}

-- whether the entry is in time, where it is this sender's
abbrev pub comes_in_time : ℕ → List Entry → Entry → Bool
comes_in_time sender past e = not (e.sender == sender) || is_call_in_time past e.call e.reply

-- whether the sender has called for a quit
abbrev pub has_quit_by : ℕ → List Entry → Bool
has_quit_by sender es = list_any (λ e. e.sender == sender && is_quit e.call) es

-- whether a thread's entry comes before this sender, the controller, has called for a quit
abbrev pub comes_before_quit : ℕ → ℕ → List Entry → Entry → Bool
comes_before_quit threads sender past e = not (nat_lt e.sender threads) || not (has_quit_by sender past)

-- whether a queue is fresh behind the entry: it moves the time, or it is one of theirs on a queue that was fresh
abbrev pub fresh_behind : (Entry → Bool) → Bool → Entry → Bool
fresh_behind theirs fresh e = is_advance e.call || (fresh && theirs e)

-- whether the entry moves the queue's time to this one
abbrev pub moves_to : ℕ → Entry → Bool
moves_to time e = is_advance e.call && moment_of e.call == time

-- what stands before each of the sender's entries, behind this past
abbrev pub befores_after : ℕ → List Entry → List Entry → List Before
befores_after sender past es = befores_from (λ e. e.sender == sender) past es

-- how many looks disposed of the queue
abbrev pub disposed_count : List Entry → ℕ
disposed_count es = count_by (λ e. is_disposed e.reply) es

-- whether someone else than this sender has quit the queue
abbrev pub is_quit_by_others : ℕ → List Entry → Bool
is_quit_by_others sender es = list_any (λ e. is_quit_done e.reply && not (e.sender == sender)) es

-- whether the entry is a thread's
abbrev pub is_threads : ℕ → Entry → Bool
is_threads threads e = nat_lt e.sender threads

-- whether a thread's entry comes first at its time, or behind the disposal
abbrev pub comes_first : ℕ → List Entry → Entry → Bool
comes_first threads past e = not (is_threads threads e) || (has_disposed (empty_base 0) past || is_fresh (is_threads threads) past)

-- what the record had come to when the first frame from this place on was to begin, from the newest entry to the oldest
abbrev pub past_before_frame : List FrameEntry → ℕ → List FrameEntry
past_before_frame fs place = reverse (take place fs ++ before_first is_begin (drop place fs))

-- a looper whose dispatch begins: nothing is painted yet, and the frame that it runs, where it runs one, is the latest
abbrev pub running : Option ℕ → LooperState → LooperState
running frame a = record a { painted = []; place = place_after a.place frame; frame_count = frames_after a.frame_count frame }

-- a looper that awaits its pulse's frame no more, where the message starts one
abbrev pub and_starts : ℕ → PostData → LooperState → LooperState
and_starts q m a = record a { awaits = a.awaits && not (starts_frame q m) }

-- a looper whose gauge's animation step was taken, where the gauge moves
abbrev pub animation_ran : Script → ℕ → ℕ → ℕ → GaugeState → LooperState → LooperState
animation_ran s q now g x a = if x.animating then gauge_moved s q now g x a else a

-- the calls that were sent to this queue
abbrev pub sent_on : ℕ → List SentCall → List SentCall
sent_on q xs = filter (λ x. x.queue == q) xs

-- the thread's lines of a block, at the block's time
abbrev pub lines_in : ℕ → Block → List TimedCommand
lines_in thread b = map (λ l. record { time = b.time; command = l.command }) (filter (λ l. l.thread == thread) b.lines)

-- the entries are, one for each of these lines on the queue, what the line plans
abbrev pub MakeCalls : Mode → Script → List ℕ → ℕ → List TimedCommand → List Entry → Type 0
MakeCalls m s labels q ls es = AreFor (IsPlanned m s labels q) [] (lines_on s labels q ls) es

-- the test that each entry passes
abbrev pub all_entries : Entry → Bool
all_entries e = true

-- the threads' calls on the queue come before the controller's quit
abbrev pub IsBeforeQuit : Script → QueueRecord → Type 0
IsBeforeQuit s r = are_before_quit s.threads (controller s) (history_of r) ≡ true

-- the thread's calls on the queue come at the times of their blocks
abbrev pub IsThreadOnTime : Script → QueueRecord → ℕ → Type 0
IsThreadOnTime s r thread =
    are_on_time (map (λ l. InBlock l.time) (lines_on s (labels_on r.looper (lines_of thread s.blocks)) r.looper (lines_of thread s.blocks)))
    (befores thread (history_of r)) ≡ true

-- the words of a dispatch in a report
abbrev pub dispatch_words : ℕ → ℕ → PostData → LineWords
dispatch_words now n p = decimal now ∷ codes "dispatch" ∷ decimal n ∷ post_subject p

-- in free mode, what the entries that pass the test promise of the clock
abbrev pub AreOfClock : Mode → (Entry → Bool) → List Entry → Type 0
AreOfClock m test es = IfFree m (AreOfClockAfter m test [] es)

-- the thread's entries of the queue's history are, line by line, as planned
abbrev pub AreAsPlanned : Mode → Script → ℕ → ℕ → List Entry → Type 0
AreAsPlanned m s thread q es =
    AreFor (IsPlanned m s (labels_on q (lines_of thread s.blocks)) q) [] (lines_on s (labels_on q (lines_of thread s.blocks)) q (lines_of thread s.blocks))
    (entries_by thread es)

-- whether a thread's entry comes where all threads have made their calls on the queue for earlier blocks
abbrev pub comes_in_order : Script → ℕ → List Entry → Entry → Bool
comes_in_order s q past e =
    not (nat_lt e.sender s.threads)
    || option_map_or (λ time. list_all (has_called_before s q time past) (range_with_len 0 s.threads))
    (slice_get (times_on s q e.sender) (length (entries_by e.sender past))) false
