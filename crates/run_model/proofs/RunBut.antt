-- Runs of a script in lockstep but for one clause: what is shown of a report that has one fault.
use Rattle.std.proofs.Common.{◌≡◌, ◌<◌, ℕ, true, false, List, [], ◌∷◌, Option, None}
use Rattle.std.specs.Prelude.{◌==◌, map, MatchBool}
use Rattle.std.specs.List.{AllByRecursion, filter_map, enumerate_from}
use mathlib.Core.List.{IsPrefix}
use Rattle.loop_model.specs.declared.entry.Entry.{Entry}
use Rattle.loop_model.specs.declared.journal.Act.{Act}
use Rattle.loop_model.specs.declared.journal.Act.TheVariants.{Dispatch, Idle, Event, Vsync, Paint}
use Rattle.loop_model.specs.declared.journal.Journal.{Journal}
use Rattle.loop_model.specs.declared.record.QueueRecord.{QueueRecord}
use Rattle.loop_model.specs.Dispatches.{act_dispatch, call_dispatch}
use Rattle.loop_model.proofs.Sorting.{AllByRecursion-weaker}
use Rattle.frame_phases.specs.declared.entry.FrameEntry.{FrameEntry}
use Rattle.frame_phases.specs.declared.entry.FrameEntry.TheVariants.{Posted, Removed, Begin, Take, Ran}
use Rattle.frame_phases.specs.declared.entry.FrameRecord.{FrameRecord}
use Rattle.frame_phases.specs.Frames.{lawful}
use Rattle.frame_phases.specs.Pulses.{are_stamped}
use Rattle.dash_script.specs.declared.script.Script.{Script}
use Rattle.dash_script.specs.Causes.{phase_count}
use Rattle.run_model.specs.declared.report.Report.{Report}
use Rattle.run_model.specs.Planned.{history_of, AreFor, entries_by, looper_sender, controller}
use Rattle.run_model.specs.Moments.{in_lockstep}
use Rattle.run_model.specs.Control.{is_called_in_time, are_before_quit, befores, are_on_time, Move, moves, move_times, main_moves, MayMoveTo}
use Rattle.run_model.specs.Loopers.{LooperState, first_looper, MayCome, after_act, ActsLead, IsSent, asked_then, has_frames, pulses_come_first}
use Rattle.run_model.specs.FrameRecords.{asks_in, TimedAsk, AreAskedInTurn}
use Rattle.run_model.specs.Run.{IsReportOf, AreRecordsOf, IsAsPlanned, IsControlled, IsFrameRun, caused_on, IsLooperRun, EachLooper, are_in_order, IsTimely, main_ends_halted, IsRun}
use Rattle.run_model.specs.Parts.{all_entries, IsThreadOnTime, IsBeforeQuit}

-- a clause of the definition, left out or kept
pub data Clause : Type 0 where
  -- no clause
  Nothing : Clause
  -- what is asked of a choreographer is parted among those who ask, in turn
  Asked : Clause
  -- it is asked in turn
  InTurn : Clause
  -- each frame has the stamp of a pulse, the latest one, of which this is the stamp
  Stamps : ℕ → Clause
  -- pulses come at multiples of the period, and the frames' stamps are theirs
  Pulses : Clause
  -- a looper's calls are on time
  OnTime : Clause
  -- a looper takes its messages when its journal tells: the dispatches, the calls, and that they are on time
  Takes : Clause
  -- the controller's calls are in time
  Controls : Clause
  -- the threads' calls come before its quit
  BeforeQuit : Clause
  -- they are on time
  Threads : Clause
  -- they come in the order of their blocks
  Order : Clause
  -- they are on time and in this order
  Blocks : Clause
  -- time is moved to when something may come
  Due : Clause
  -- all queues' times are moved together
  Together : Clause
  -- each pulse comes after the one before it
  Rising : Clause
  -- each pulse comes once the frame message of the one before it is taken, and a frame runs for such a pulse
  Awaited : Clause
  -- each pulse whose message is taken has its frame
  Framed : Clause
  -- each pulse comes before the dispatches of its own millisecond
  First : Clause
  -- each pulse was wanted
  Wanted : Clause
  -- a choreographer's record is lawful
  Lawful : Clause
  -- what is painted at the end is told
  Settled : Clause
  -- the controller's calls are its own
  Controlled : Clause
  -- main ends with its Halt
  Halted : Clause

abbrev pub number_of : Clause → ℕ
number_of Nothing = 0
number_of Asked = 1
number_of (Stamps stamp) = 2
number_of Pulses = 6
number_of OnTime = 7
number_of Takes = 8
number_of Controls = 9
number_of BeforeQuit = 10
number_of Threads = 11
number_of Order = 12
number_of Blocks = 13
number_of Due = 14
number_of Together = 15
number_of InTurn = 16
number_of Rising = 17
number_of Awaited = 18
number_of Framed = 19
number_of Lawful = 20
number_of Settled = 21
number_of Controlled = 22
number_of Halted = 23
number_of First = 24
number_of Wanted = 25

-- this is so, unless it is the clause that is left out
abbrev pub Unless : Clause → Clause → Type 0 → Type 0
Unless out clause P = MatchBool (number_of out == number_of clause) (Unit {0}) P

-- where the pulses are left out, one comes at each moment but 0: the period is a nanosecond
abbrev pub with_pulses : Clause → Script → Script
with_pulses Pulses s = record s { period = 1 }
with_pulses _ s = s

-- a pulse comes to a looper as its first one
abbrev first_pulse : Act → LooperState → LooperState
first_pulse (Vsync stamp) a = record a { stamp = 0 }
first_pulse (Dispatch n now route) a = a
first_pulse (Paint g v) a = a
first_pulse (Idle i k) a = a
first_pulse (Event f e m) a = a

-- a pulse comes, and a frame runs, wherever one is awaited or not
abbrev whenever : Act → LooperState → LooperState
whenever (Vsync stamp) a = record a { awaits = false }
whenever (Dispatch n now route) a = record a { awaits = true }
whenever (Paint g v) a = a
whenever (Idle i k) a = a
whenever (Event f e m) a = a

-- where it is left out that pulses rise, each pulse comes as the first one; where it is left out that a pulse awaits its frame, it may come whenever
abbrev pub before_act : Clause → Act → LooperState → LooperState
before_act Rising x a = first_pulse x a
before_act Awaited x a = whenever x a
before_act _ x a = a

-- where it is left out that pulses were wanted, a callback was live that is due at 0
abbrev entries_for_pulse : List FrameEntry → Act → List FrameEntry
entries_for_pulse fs (Vsync stamp) = Posted (record { number = 0; phase = 0; due = 0; id = 0; token = None }) ∷ []
entries_for_pulse fs (Dispatch n now route) = fs
entries_for_pulse fs (Paint g v) = fs
entries_for_pulse fs (Idle i k) = fs
entries_for_pulse fs (Event f e m) = fs

abbrev pub entries_for_act : Clause → Act → List FrameEntry → List FrameEntry
entries_for_act Wanted x fs = entries_for_pulse fs x
entries_for_act _ x fs = fs

-- the acts lead a looper from one state to another, but for the clause that is left out
abbrev pub LeadBut : Clause → Script → ℕ → List Entry → List FrameEntry → LooperState → List Act → LooperState → Type 0
LeadBut out s q es fs a [] b = a ≡ b
LeadBut out s q es fs a (x ∷ xs) b = (frame : Option ℕ) × (MayCome s q es (entries_for_act out x fs) frame (before_act out x a) x × LeadBut out s q es fs (after_act s q es fs frame a x) xs b)

-- where it is left out that asks are made in turn, all are made at once
abbrev pub made_but : Clause → List (List TimedAsk) → List (List TimedAsk)
made_but InTurn by_sender = map (map (λ (x : TimedAsk). record x { when = 0 })) by_sender
made_but _ by_sender = by_sender

-- where the frames' stamps are left out, each frame has this one
abbrev pub stamped_with : ℕ → FrameEntry → FrameEntry
stamped_with stamp (Begin vsync start time) = Begin stamp start time
stamped_with stamp (Posted c) = Posted c
stamped_with stamp (Removed phase id token count) = Removed phase id token count
stamped_with stamp (Take phase now time) = Take phase now time
stamped_with stamp (Ran number) = Ran number

abbrev pub with_stamps : Clause → List FrameEntry → List FrameEntry
with_stamps (Stamps stamp) fs = map (stamped_with stamp) fs
with_stamps _ fs = fs

-- a looper's run, but for the clause that is left out
pub record IsLooperRunBut (out : Clause) (s : Script) (queues : List QueueRecord) (q : QueueRecord) (j : Journal) (f : FrameRecord) : Type 0 where
  pub final : LooperState
  pub acts : LeadBut out (with_pulses out s) q.looper (history_of q) (with_stamps out f.entries) (first_looper s) j.acts final
  pub settled : Unless out Settled (final.painted ≡ [])
  pub dispatches : Unless out Takes (filter_map act_dispatch j.acts ≡ filter_map (λ e. call_dispatch e.call e.reply) (entries_by (looper_sender s q.looper) (history_of q)))
  pub disposed_at : ℕ
  pub calls : Unless out Takes (AllByRecursion (λ (r : QueueRecord). AreFor IsSent [] (caused_on r.looper final q.looper disposed_at) (entries_by (looper_sender s q.looper) (history_of r))) queues)
  pub asked : Unless out Asked (AreAskedInTurn true (asks_in f.entries) (made_but out (asked_then s q.looper final)))
  pub on_time : Unless out OnTime (Unless out Takes (AllByRecursion (λ (r : QueueRecord). are_on_time (map (λ x. x.timing) (caused_on r.looper final q.looper disposed_at)) (befores (looper_sender s q.looper) (history_of r)) ≡ true) queues))
  pub pulses : Unless out Framed (Unless out Awaited (has_frames j.acts final ≡ true))
  pub pulses_first : Unless out First (Unless out Rising (pulses_come_first j.acts ≡ true))

-- a choreographer's record, but for the clause that is left out
pub record IsFrameRunBut (out : Clause) (s : Script) (f : FrameRecord) : Type 0 where
  pub interval : f.interval ≡ s.period
  pub phases : f.phases ≡ phase_count s.edition
  pub lawful : Unless out Lawful (lawful f.interval f.phases f.entries ≡ true)
  pub stamps : Unless out (Stamps 0) (Unless out Pulses (are_stamped f.interval f.entries ≡ true))

-- a timely history, but for the clause that is left out
pub record IsTimelyBut (out : Clause) (s : Script) (r : QueueRecord) : Type 0 where
  pub controls : Unless out Controls (is_called_in_time (controller s) (history_of r) ≡ true)
  pub before_quit : Unless out BeforeQuit (are_before_quit s.threads (controller s) (history_of r) ≡ true)
  pub threads : Unless out Threads (Unless out Blocks ((thread : ℕ) → thread < s.threads → IsThreadOnTime s r thread))
  pub in_order : Unless out Order (Unless out Blocks (are_in_order s r.looper (history_of r) ≡ true))

-- the moves of all queues, but for the clause that is left out
pub record AreMovedBut (out : Clause) (s : Script) (all : List (List Move)) : Type 0 where
  pub due : Unless out Due (AllByRecursion (λ (number, t). MayMoveTo s all number t) (enumerate_from 0 (move_times (main_moves all))))
  pub together : Unless out Together (AllByRecursion (λ (ms : List Move). IsPrefix (move_times ms) (move_times (main_moves all))) all)

-- a run of the script, but for the clause that is left out
pub record IsRunBut (out : Clause) (s : Script) (r : Report) : Type 0 where
  pub report : IsReportOf s r
  pub records : AreRecordsOf in_lockstep all_entries s r
  pub planned : AllByRecursion (IsAsPlanned in_lockstep s) r.queues
  pub controls : AllByRecursion (λ (q : QueueRecord). Unless out Controlled (IsControlled s q)) r.queues
  pub frames : AllByRecursion (IsFrameRunBut out s) r.frames
  pub loopers : EachLooper (IsLooperRunBut out s r.queues) r.queues r.journals r.frames
  pub halted : Unless out Halted (main_ends_halted r.queues ≡ true)
  pub histories : AllByRecursion (IsTimelyBut out s) r.queues
  pub moved : AreMovedBut out s (map (λ q. moves (controller s) (history_of q)) r.queues)

each_looper : (P Q : QueueRecord → Journal → FrameRecord → Type 0) → ((q : QueueRecord) (j : Journal) (f : FrameRecord) → P q j f → Q q j f)
    → (qs : List QueueRecord) (js : List Journal) (fs : List FrameRecord) → EachLooper P qs js fs → EachLooper Q qs js fs
each_looper P Q weaker [] [] [] all = tt
each_looper P Q weaker [] [] (f ∷ fs) all = absurd all
each_looper P Q weaker [] (j ∷ js) fs all = absurd all
each_looper P Q weaker (q ∷ qs) [] fs all = absurd all
each_looper P Q weaker (q ∷ qs) (j ∷ js) [] all = absurd all
each_looper P Q weaker (q ∷ qs) (j ∷ js) (f ∷ fs) all = (weaker q j f all.0, each_looper P Q weaker qs js fs all.1)

all_lead : (s : Script) (q : ℕ) (es : List Entry) (fs : List FrameEntry) (a : LooperState) (xs : List Act) (b : LooperState) → LeadBut Nothing s q es fs a xs b → ActsLead s q es fs a xs b
all_lead s q es fs a [] b is = is
all_lead s q es fs a (x ∷ xs) b (frame, (comes, rest)) = (frame, (comes, all_lead s q es fs (after_act s q es fs frame a x) xs b rest))

-- where no clause is left out, it is a run
pub is_run : (s : Script) (r : Report) → IsRunBut Nothing s r → IsRun in_lockstep s r
is_run s r h = record {
  report = h.report;
  records = h.records;
  planned = h.planned;
  controls = h.controls;
  frames = AllByRecursion-weaker (IsFrameRunBut Nothing s) (IsFrameRun s) (λ f x. record { interval = x.interval; phases = x.phases; lawful = x.lawful; stamps = x.stamps }) r.frames h.frames;
  loopers = each_looper (IsLooperRunBut Nothing s r.queues) (IsLooperRun in_lockstep s r.queues) (λ q j f x. record {
    final = x.final;
    acts = all_lead s q.looper (history_of q) f.entries (first_looper s) j.acts x.final x.acts;
    settled = x.settled;
    dispatches = x.dispatches;
    disposed_at = x.disposed_at;
    calls = x.calls;
    asked = x.asked;
    on_time = x.on_time;
    pulses = x.pulses;
    pulses_first = x.pulses_first;
  }) r.queues r.journals r.frames h.loopers;
  timely = record {
    halted = h.halted;
    before_quit = AllByRecursion-weaker (IsTimelyBut Nothing s) (IsBeforeQuit s) (λ q x. x.before_quit) r.queues h.histories;
    histories = AllByRecursion-weaker (IsTimelyBut Nothing s) (IsTimely s) (λ q x. record { controls = x.controls; threads = x.threads; in_order = x.in_order }) r.queues h.histories;
    moves = record { due = h.moved.due; together = h.moved.together };
  };
}
