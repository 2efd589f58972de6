-- When a report is a run of a script.
use Rattle.std.specs.Prelude.{◌≡◌, ◌<◌, ℕ, ◌==◌, Bool, true, false, ◌||◌, not, nat_lt, nat_le, List, [], ◌∷◌, ◌++◌, map, length, count_by, slice_get, filter}
use Rattle.std.specs.Prelude.{MatchBool}
use Rattle.std.specs.List.{AllByRecursion, filter_map, list_all, range_with_len}
use Rattle.std.specs.Option.{option_map_or}
use Rattle.loop_model.specs.declared.entry.Entry.{Entry}
use Rattle.loop_model.specs.Base.{empty_base}
use Rattle.loop_model.specs.Answers.{Setting}
use Rattle.loop_model.specs.Legal.{IsLegal, AreNumbered}
use Rattle.loop_model.specs.Chain.{IsChainFrom}
use Rattle.loop_model.specs.Dispatches.{act_dispatch, call_dispatch}
use Rattle.loop_model.specs.declared.journal.Journal.{Journal}
use Rattle.loop_model.specs.declared.record.QueueRecord.{QueueRecord}
use Rattle.frame_phases.specs.declared.entry.FrameRecord.{FrameRecord}
use Rattle.frame_phases.specs.Frames.{lawful}
use Rattle.frame_phases.specs.Pulses.{are_stamped}
use Rattle.dash_script.specs.declared.script.Script.{Script}
use Rattle.dash_script.specs.Causes.{phase_count}
use Rattle.run_model.specs.declared.report.Report.{Report}
use Rattle.run_model.specs.Planned.{history_of, AreFor, entries_by, looper_sender, controller, sender_count, lines_of, labels_on, lines_on, times_on, IsPlanned}
use Rattle.run_model.specs.Moments.{Mode, IfLockstep, in_lockstep, IfFree, AreOfClockAfter}
use Rattle.run_model.specs.Control.{is_controlled, ends_halted, is_called_in_time, are_before_quit, befores, InBlock, are_on_time, each_behind, moves}
use Rattle.run_model.specs.Control.{AreMovedTogether, AreBlocksFirst, AreBlocksReached}
use Rattle.run_model.specs.Loopers.{LooperState, SentCall, first_looper, ActsLead, closing, IsSent, asked_then, has_frames, pulses_come_first}
use Rattle.run_model.specs.FrameRecords.{asks_in, AreAskedInTurn}

abbrev pub record_setting : QueueRecord → Setting
record_setting r = record { main = r.main; lockstep = r.lockstep; senders = r.senders }

-- the report is of the script, and each of its three lists has one member per looper in order, with that number
pub record IsReportOf (s : Script) (r : Report) : Type 0 where
  pub script : r.script ≡ s
  pub queues : map (λ q. q.looper) r.queues ≡ range_with_len 0 s.loopers
  pub journals : map (λ j. j.looper) r.journals ≡ range_with_len 0 s.loopers
  pub frames : map (λ f. f.looper) r.frames ≡ range_with_len 0 s.loopers

-- a queue's record: its constants are those of the run, its parts are a chain, and its entries have the replies that a queue of one thread gives
-- and the numbers of their senders, the last of whom alone moves the time and halts; in free mode the moments of the entries that pass the test are
-- the clock's, or the queue's time
pub record IsRecordOf (m : Mode) (test : Entry → Bool) (s : Script) (r : QueueRecord) : Type 0 where
  pub main : r.main ≡ (r.looper == 0)
  pub lockstep : r.lockstep ≡ m.lockstep
  pub senders : r.senders ≡ sender_count s
  pub chain : IsChainFrom (empty_base r.senders) r.segments
  pub legal : IsLegal (record_setting r) (empty_base r.senders) (history_of r)
  pub numbered : AreNumbered (record_setting r) (empty_base r.senders) (history_of r)
  pub clocked : IfFree m (AreOfClockAfter m test [] (history_of r))

-- part 1 of a run: the queues' records, and the reading at the start, which is one that the clock shows, and in lockstep 0
pub record AreRecordsOf (m : Mode) (test : Entry → Bool) (s : Script) (r : Report) : Type 0 where
  pub mode : r.start ≡ m.start
  pub start : MatchBool m.lockstep (m.start ≡ 0) (m.shows m.start ≡ true)
  pub histories : AllByRecursion (IsRecordOf m test s) r.queues

-- part 2 of a run: each thread's entries on each queue make the calls of its lines there, one for one and in order
abbrev pub IsAsPlanned : Mode → Script → QueueRecord → Type 0
IsAsPlanned m s r = (thread : ℕ) → thread < s.threads →
    AreFor (IsPlanned m s (labels_on r.looper (lines_of thread s.blocks)) r.looper) []
    (lines_on s (labels_on r.looper (lines_of thread s.blocks)) r.looper (lines_of thread s.blocks)) (entries_by thread (history_of r))

-- part 3 of a run: the controller's entries on each queue are its own, and the queue is disposed of once unless it is main
abbrev pub IsControlled : Script → QueueRecord → Type 0
IsControlled s r = is_controlled r.main r.lockstep (controller s) s.end (history_of r) ≡ true

-- part 4 of a run: each choreographer's record has the script's period and phases, and is lawful, and each of its frames has the stamp of a pulse, or 0
pub record IsFrameRun (s : Script) (f : FrameRecord) : Type 0 where
  pub interval : f.interval ≡ s.period
  pub phases : f.phases ≡ phase_count s.edition
  pub lawful : lawful f.interval f.phases f.entries ≡ true
  pub stamps : are_stamped f.interval f.entries ≡ true

-- what a looper's acts cause on a queue, with the last look where it is not main
abbrev pub caused_on : ℕ → LooperState → ℕ → ℕ → List SentCall
caused_on queue final looper disposed_at = filter (λ x. x.queue == queue) (final.sent ++ closing looper disposed_at)

-- a looper's calls on each queue are those that its acts cause, the posts, removals, beginnings and phases of its frame record are parted among those who ask
-- for them, in turn, and its Dispatch acts are, one for one and in order, its entries answered Dispatched. All that was painted is told. In lockstep each call
-- and each ask is on time, each pulse whose message is taken has its frame, and none comes behind a dispatch of its own millisecond
pub record IsLooperRun (m : Mode) (s : Script) (queues : List QueueRecord) (q : QueueRecord) (j : Journal) (f : FrameRecord) : Type 0 where
  pub final : LooperState
  pub acts : ActsLead s q.looper (history_of q) f.entries (first_looper s) j.acts final
  pub settled : final.painted ≡ []
  pub dispatches : filter_map act_dispatch j.acts ≡ filter_map (λ e. call_dispatch e.call e.reply) (entries_by (looper_sender s q.looper) (history_of q))
  pub disposed_at : ℕ
  pub calls : AllByRecursion (λ (r : QueueRecord).
      AreFor IsSent [] (caused_on r.looper final q.looper disposed_at) (entries_by (looper_sender s q.looper) (history_of r))) queues
  pub asked : AreAskedInTurn m.lockstep (asks_in f.entries) (asked_then s q.looper final)
  pub on_time : IfLockstep m (AllByRecursion (λ (r : QueueRecord).
      are_on_time (map (λ x. x.timing) (caused_on r.looper final q.looper disposed_at)) (befores (looper_sender s q.looper) (history_of r)) ≡ true) queues)
  pub pulses : IfLockstep m (has_frames j.acts final ≡ true)
  pub pulses_first : IfLockstep m (pulses_come_first j.acts ≡ true)

-- part 5 of a run: the loopers' calls, journals and frame records, each with its looper's queue, and no others
abbrev pub EachLooper : (QueueRecord → Journal → FrameRecord → Type 0) → List QueueRecord → List Journal → List FrameRecord → Type 0
EachLooper P [] [] [] = Unit {0}
EachLooper P (q ∷ qs) (j ∷ js) (f ∷ fs) = P q j f × EachLooper P qs js fs
EachLooper P _ _ _ = ⊥

-- the threads' calls on the queue come in the order of their blocks: each where all threads have made their calls there for earlier blocks
abbrev pub has_called_before : Script → ℕ → ℕ → List Entry → ℕ → Bool
has_called_before s q time past thread = nat_le (count_by (λ t. nat_lt t time) (times_on s q thread)) (length (entries_by thread past))

unfoldable pub are_in_order : Script → ℕ → List Entry → Bool
are_in_order s q es = each_behind (λ past e.
    not (nat_lt e.sender s.threads)
    || option_map_or (λ time. list_all (has_called_before s q time past) (range_with_len 0 s.threads))
    (slice_get (times_on s q e.sender) (length (entries_by e.sender past))) false) [] es

-- the controller's calls are in time, and the threads' calls are on time and come in the order of their blocks
pub record IsTimely (s : Script) (r : QueueRecord) : Type 0 where
  pub controls : is_called_in_time (controller s) (history_of r) ≡ true
  pub threads : (thread : ℕ) → thread < s.threads →
      are_on_time (map (λ l. InBlock l.time) (lines_on s (labels_on r.looper (lines_of thread s.blocks)) r.looper (lines_of thread s.blocks)))
      (befores thread (history_of r)) ≡ true
  pub in_order : are_in_order s r.looper (history_of r) ≡ true

-- whether main's queue, the first, ends with its Halt
abbrev pub main_ends_halted : List QueueRecord → Bool
main_ends_halted [] = false
main_ends_halted (q ∷ qs) = ends_halted (history_of q)

-- part 6 of a run: main ends with its Halt, the threads' calls come before the controller's quits, and in lockstep each history is timely and all queues' times
-- are moved together, to times at which something may come
pub record AreTimelyOf (m : Mode) (s : Script) (r : Report) : Type 0 where
  pub halted : main_ends_halted r.queues ≡ true
  pub before_quit : AllByRecursion (λ (q : QueueRecord). are_before_quit s.threads (controller s) (history_of q) ≡ true) r.queues
  pub histories : IfLockstep m (AllByRecursion (IsTimely s) r.queues)
  pub moves : IfLockstep m (AreMovedTogether s (map (λ q. moves (controller s) (history_of q)) r.queues))

-- the report is a run of the script; each part can be claimed by itself, and the first one of the entries that pass a test: here all pass
pub record IsRun (m : Mode) (s : Script) (r : Report) : Type 0 where
  pub report : IsReportOf s r
  pub records : AreRecordsOf m (λ e. true) s r
  pub planned : AllByRecursion (IsAsPlanned m s) r.queues
  pub controls : AllByRecursion (IsControlled s) r.queues
  pub frames : AllByRecursion (IsFrameRun s) r.frames
  pub loopers : EachLooper (IsLooperRun m s r.queues) r.queues r.journals r.frames
  pub timely : AreTimelyOf m s r

-- a run in lockstep, where on each queue threads' calls come first at their block's time, or behind its disposal, and main comes to each block but one at 0
pub record IsStaged (s : Script) (r : Report) : Type 0 where
  pub run : IsRun in_lockstep s r
  pub blocks : AreBlocksFirst s r.queues
  pub reached : AreBlocksReached s r.queues
