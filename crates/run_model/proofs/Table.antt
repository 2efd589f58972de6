-- Reports as data: a report in lockstep is a run, or one but for a clause, where one equation computes.
use Rattle.std.proofs.Common.{◌≡◌, ◌<◌, ℕ, zero, suc, Bool, true, false, List, [], ◌∷◌, ◌++◌, Option, Some, None, refl, sym, ap, inl, inr}
use Rattle.std.specs.Prelude.{codes, ◌+◌, ◌*◌, ◌/◌, ◌==◌, ◌&&◌, ◌||◌, not, is_some, map, drop, length, MatchBool, if◌then◌else◌}
use Rattle.std.specs.Fmt.{digits}
use Rattle.std.specs.List.{AllByRecursion, filter_map, list_all, list_any, range_with_len, enumerate_from}
use Rattle.std.specs.Option.{option_map_or, MatchOption}
use Rattle.std.proofs.lemmas.Bool.{and_parts, or_cases, eqb-true, not-true}
use mathlib.Core.List.{IsPrefix}
use Rattle.loop_model.specs.declared.call.Call.{Call}
use Rattle.loop_model.specs.declared.call.Call.TheVariants.{Halt}
use Rattle.loop_model.specs.declared.reply.Reply.{Reply}
use Rattle.loop_model.specs.declared.entry.Entry.{Entry}
use Rattle.loop_model.specs.declared.journal.Act.{Act}
use Rattle.loop_model.specs.declared.journal.Act.TheVariants.{Dispatch, Idle, Event, Vsync, Paint}
use Rattle.loop_model.specs.declared.journal.Journal.{Journal}
use Rattle.loop_model.specs.declared.record.QueueRecord.{QueueRecord}
use Rattle.loop_model.specs.Base.{empty_base}
use Rattle.loop_model.specs.Answers.{answer, clock, accepted_count, barrier_count, quit_place, has_disposed, has_halted}
use Rattle.loop_model.specs.Legal.{made_count}
use Rattle.loop_model.specs.Live.{live}
use Rattle.loop_model.specs.Pick.{first_eligible, pick}
use Rattle.loop_model.specs.Posts.{post_at}
use Rattle.loop_model.specs.Fates.{fates}
use Rattle.loop_model.specs.Dispatches.{act_dispatch, call_dispatch}
use Rattle.frame_phases.specs.declared.entry.FrameEntry.{FrameEntry}
use Rattle.frame_phases.specs.declared.entry.FrameRecord.{FrameRecord}
use Rattle.frame_phases.specs.Pulses.{are_stamped, comes_after}
use Rattle.frame_phases.specs.Pulses.{wanted_by}
use Rattle.frame_phases.specs.Frames.{lawful, is_pulse, all_allowed, is_allowed, owed_callbacks, next_phase, last_time, in_due_order, before_later, live_callbacks, posted_count}
use Rattle.dash_script.specs.declared.script.Block.{Block}
use Rattle.dash_script.specs.declared.script.Script.{Script}
use Rattle.dash_script.specs.Causes.{phase_count}
use Rattle.run_model.specs.declared.report.Report.{Report}
use Rattle.run_model.specs.Planned.{history_of, AreFor, bare_call, call_of, token_in, entries_by, looper_sender, controller, sender_count, lines_of, labels_on}
use Rattle.run_model.specs.Moments.{in_lockstep}
use Rattle.run_model.specs.Control.{InBlock, is_controlled, is_called_in_time, are_before_quit, befores, are_on_time, Move, moves, move_times, main_moves, is_planned_time, was_due_at, MayMoveTo}
use Rattle.run_model.specs.Loopers.{LooperState, SentCall, first_looper, starts_frame, IsSent, MayCome, after_act, dispatched, asked_then, has_frames, pulses_come_first}
use Rattle.run_model.specs.FrameRecords.{millis_up, is_frame_from, has_stamp, was_wanted, asks_in}
use Rattle.run_model.specs.Run.{IsRun, IsRecordOf, IsAsPlanned, IsControlled, EachLooper, record_setting, caused_on, are_in_order, main_ends_halted}
use Rattle.run_model.specs.Parts.{all_entries}
use Rattle.run_model.specs.Text.{report_text, report_lines}
use Rattle.run_model.proofs.Below.{EachBelow, each_below}
use Rattle.run_model.proofs.Parting.{can_ask_in_turn, asks_are_in_turn}
use Rattle.run_model.proofs.ByTests.{answers, replies, are_timely, are_numbered, history_by, planned_calls, made_calls, thread_lines, MakesThem, calls_by}
use Rattle.run_model.proofs.Examples.{queue, journal, page, handler_on, plain_script}
use Rattle.run_model.proofs.RunBut.{Clause, Nothing, Asked, Stamps, Pulses, OnTime, Takes, Controls, BeforeQuit, Threads, Order, Blocks, Due, Together, Rising, Awaited, Framed, First, Lawful, Settled, Controlled, Halted, number_of, Unless, with_pulses, with_stamps, made_but, before_act, entries_for_act, LeadBut, IsFrameRunBut, IsLooperRunBut, IsTimelyBut, IsRunBut}
use Rattle.run_model.proofs.RunBut as but

-- ---- a report as data

-- what is kept of a looper: its queue's entries, its acts, its frame record, for each act the place of the frame that it runs (the acts behind these run
-- none), and when it disposed of its queue
pub record Row : Type 0 where
  pub entries : List Entry
  pub acts : List Act
  pub frames : List FrameEntry
  pub places : List (Option ℕ)
  pub disposed_at : ℕ

abbrev pub queue_in : Script → ℕ → Row → QueueRecord
queue_in s n row = queue n (n == 0) (sender_count s) row.entries

abbrev pub frames_in : Script → ℕ → Row → FrameRecord
frames_in s n row = record { looper = n; interval = s.period; phases = phase_count s.edition; entries = row.frames }

abbrev pub queues_from : Script → ℕ → List Row → List QueueRecord
queues_from s n [] = []
queues_from s n (row ∷ rows) = queue_in s n row ∷ queues_from s (n + 1) rows

abbrev pub journals_from : ℕ → List Row → List Journal
journals_from n [] = []
journals_from n (row ∷ rows) = journal n row.acts ∷ journals_from (n + 1) rows

abbrev pub frames_from : Script → ℕ → List Row → List FrameRecord
frames_from s n [] = []
frames_from s n (row ∷ rows) = frames_in s n row ∷ frames_from s (n + 1) rows

-- the report of a run in lockstep
abbrev pub report_of : Script → List Row → Report
report_of s rows = record { script = s; queues = queues_from s 0 rows; journals = journals_from 0 rows; frames = frames_from s 0 rows; start = 0 }

-- a looper that runs no frame
abbrev pub acting : List Entry → List Act → ℕ → Row
acting es acts disposed_at = record { entries = es; acts = acts; frames = []; places = []; disposed_at = disposed_at }

-- and one whose journal is empty
abbrev pub quiet : List Entry → ℕ → Row
quiet es disposed_at = acting es [] disposed_at

-- ---- lists

module _ {X : Type 0} where
  abbrev first_or : X → List X → X
  first_or d [] = d
  first_or d (x ∷ xs) = x

  abbrev behind_first : List X → List X
  behind_first [] = []
  behind_first (x ∷ xs) = xs

  pub firsts : (x y : X) (xs ys : List X) → x ∷ xs ≡ y ∷ ys → x ≡ y
  firsts x y xs ys e = ap (first_or x) e

  pub others : (x y : X) (xs ys : List X) → x ∷ xs ≡ y ∷ ys → xs ≡ ys
  others x y xs ys e = ap behind_first e

  -- what passes each test
  all_by : (P : X → Type 0) (t : X → Bool) → ((x : X) → t x ≡ true → P x) → (xs : List X) → list_all t xs ≡ true → AllByRecursion P xs
  all_by P t sound [] h = tt
  all_by P t sound (x ∷ xs) h = let p = and_parts (t x) (list_all t xs) h in (sound x p.0, all_by P t sound xs p.1)

  -- of each number below a number, the greatest first
  abbrev pub down_from : ℕ → (ℕ → X) → List X
  down_from zero f = []
  down_from (suc n) f = f n ∷ down_from n f

  down_same : (n : ℕ) (f g : ℕ → X) → down_from n f ≡ down_from n g → (k : ℕ) → k < n → f k ≡ g k
  down_same n f g e = each_below n (λ k. f k ≡ g k) (go n e)
    where
      go : (m : ℕ) → down_from m f ≡ down_from m g → EachBelow m (λ k. f k ≡ g k)
      go zero e = tt
      go (suc m) e = (go m (others (f m) (g m) (down_from m f) (down_from m g) e), firsts (f m) (g m) (down_from m f) (down_from m g) e)

-- what is equal for each
all_same : {X Y : Type 0} (P : X → Type 0) (f g : X → Y) → ((x : X) → f x ≡ g x → P x) → (xs : List X) → map f xs ≡ map g xs → AllByRecursion P xs
all_same P f g sound [] e = tt
all_same P f g sound (x ∷ xs) e = (sound x (firsts (f x) (g x) (map f xs) (map g xs) e), all_same P f g sound xs (others (f x) (g x) (map f xs) (map g xs) e))

-- ---- a clause that is left out

abbrev unless : Clause → Clause → Bool → Bool
unless out c test = number_of out == number_of c || test

abbrev kept : {X : Type 0} → Clause → Clause → List X → List X
kept out c xs = if number_of out == number_of c then [] else xs

unless_true : (b test : Bool) (P : Type 0) → (test ≡ true → P) → (b || test) ≡ true → MatchBool b (Unit {0}) P
unless_true true test P sound h = tt
unless_true false test P sound h = sound h

kept_same : {X : Type 0} (b : Bool) (xs ys : List X) (P : Type 0) → (xs ≡ ys → P) → (if b then [] else xs) ≡ (if b then [] else ys) → MatchBool b (Unit {0}) P
kept_same true xs ys P sound e = tt
kept_same false xs ys P sound e = sound e

-- ---- the acts of a looper

abbrev place_first : List (Option ℕ) → Option ℕ
place_first [] = None
place_first (f ∷ fs) = f

-- what a looper has come to after these acts, which run the frames at these places
abbrev pub led : Script → ℕ → List Entry → List FrameEntry → List (Option ℕ) → LooperState → List Act → LooperState
led s q es fs places a [] = a
led s q es fs places a (x ∷ xs) = led s q es fs (behind_first places) (after_act s q es fs (place_first places) a x) xs

abbrev is_clear : Option ℕ → List Act → Bool
is_clear None [] = true
is_clear None (x ∷ xs) = false
is_clear (Some place) [] = false
is_clear (Some place) (x ∷ xs) = false

-- the act may come next, but for what it paints
abbrev act_may : Script → ℕ → List Entry → List FrameEntry → Option ℕ → LooperState → Act → Bool
act_may s q es fs frame a (Dispatch n now route) =
    is_some (post_at es n) && (not (is_some frame) || option_map_or (starts_frame q) (post_at es n) false) && (not (is_some frame) || a.awaits)
    && is_frame_from fs a.place frame && has_stamp fs frame a.stamp
act_may s q es fs frame a (Paint g v) = not (is_some frame)
act_may s q es fs frame a (Vsync stamp) = is_clear frame a.painted && not a.awaits && is_pulse s.period stamp && comes_after a.stamp stamp && was_wanted fs a.place stamp
act_may s q es fs frame a (Idle i k) = is_clear frame a.painted
act_may s q es fs frame a (Event f e m) = is_clear frame a.painted

-- what is painted once the act has come, where it dispatches
abbrev act_paints : Script → ℕ → List Entry → List FrameEntry → Option ℕ → LooperState → Act → List Act
act_paints s q es fs frame a (Dispatch n now route) = (dispatched s q fs frame n now a (post_at es n)).painted
act_paints s q es fs frame a (Paint g v) = a.painted
act_paints s q es fs frame a (Vsync stamp) = a.painted
act_paints s q es fs frame a (Idle i k) = a.painted
act_paints s q es fs frame a (Event f e m) = a.painted

abbrev acts_may : Clause → Script → ℕ → List Entry → List FrameEntry → List (Option ℕ) → LooperState → List Act → Bool
acts_may out s q es fs places a [] = true
acts_may out s q es fs places a (x ∷ xs) =
    act_may s q es (entries_for_act out x fs) (place_first places) (before_act out x a) x && acts_may out s q es fs (behind_first places) (after_act s q es fs (place_first places) a x) xs

abbrev acts_paint : Clause → Script → ℕ → List Entry → List FrameEntry → List (Option ℕ) → LooperState → List Act → List (List Act)
acts_paint out s q es fs places a [] = []
acts_paint out s q es fs places a (x ∷ xs) =
    act_paints s q es (entries_for_act out x fs) (place_first places) (before_act out x a) x ∷ acts_paint out s q es fs (behind_first places) (after_act s q es fs (place_first places) a x) xs

abbrev acts_painted : Clause → Script → ℕ → List Entry → List FrameEntry → List (Option ℕ) → LooperState → List Act → List (List Act)
acts_painted out s q es fs places a [] = []
acts_painted out s q es fs places a (x ∷ xs) =
    (before_act out x a).painted ∷ acts_painted out s q es fs (behind_first places) (after_act s q es fs (place_first places) a x) xs

none_there : (o : Option ℕ) → not (is_some o) ≡ true → o ≡ None
none_there None h = refl
none_there (Some n) h = cc

clear_parts : (o : Option ℕ) (xs : List Act) → is_clear o xs ≡ true → (o ≡ None) × (xs ≡ [])
clear_parts None [] h = (refl, refl)
clear_parts None (x ∷ xs) h = cc
clear_parts (Some n) [] h = cc
clear_parts (Some n) (x ∷ xs) h = cc

may_come : (s : Script) (q : ℕ) (es : List Entry) (fs : List FrameEntry) (frame : Option ℕ) (a : LooperState) (x : Act)
    → act_may s q es fs frame a x ≡ true → act_paints s q es fs frame a x ≡ a.painted → MayCome s q es fs frame a x
may_come s q es fs frame a (Dispatch n now route) h painted =
    let starts = not (is_some frame) || option_map_or (starts_frame q) (post_at es n) false in
    let awaited = not (is_some frame) || a.awaits in
    let four = and_parts (is_some (post_at es n) && starts && awaited && is_frame_from fs a.place frame) (has_stamp fs frame a.stamp) h in
    let three = and_parts (is_some (post_at es n) && starts && awaited) (is_frame_from fs a.place frame) four.0 in
    let two = and_parts (is_some (post_at es n) && starts) awaited three.0 in
    let one = and_parts (is_some (post_at es n)) starts two.0 in
    record { accepted = one.0; starts = one.1; awaited = two.1; place = three.1; stamped = four.1; painted = painted }
may_come s q es fs frame a (Paint g v) h painted = none_there frame h
may_come s q es fs frame a (Vsync stamp) h painted =
    let four = and_parts (is_clear frame a.painted && not a.awaits && is_pulse s.period stamp && comes_after a.stamp stamp) (was_wanted fs a.place stamp) h in
    let three = and_parts (is_clear frame a.painted && not a.awaits && is_pulse s.period stamp) (comes_after a.stamp stamp) four.0 in
    let two = and_parts (is_clear frame a.painted && not a.awaits) (is_pulse s.period stamp) three.0 in
    let one = and_parts (is_clear frame a.painted) (not a.awaits) two.0 in
    let c = clear_parts frame a.painted one.0 in (c.0, record { painted = c.1; awaited = not-true a.awaits one.1; pulse = two.1; later = three.1; wanted = four.1 })
may_come s q es fs frame a (Idle i k) h painted = clear_parts frame a.painted h
may_come s q es fs frame a (Event f e m) h painted = clear_parts frame a.painted h

leads : (out : Clause) (s : Script) (q : ℕ) (es : List Entry) (fs : List FrameEntry) (places : List (Option ℕ)) (a : LooperState) (xs : List Act)
    → acts_may out s q es fs places a xs ≡ true → acts_paint out s q es fs places a xs ≡ acts_painted out s q es fs places a xs → LeadBut out s q es fs a xs (led s q es fs places a xs)
leads out s q es fs places a [] h painted = refl
leads out s q es fs places a (x ∷ xs) h painted =
    let frame = place_first places in
    let next = after_act s q es fs frame a x in
    let before = before_act out x a in
    let told = entries_for_act out x fs in
    let two = and_parts (act_may s q es told frame before x) (acts_may out s q es fs (behind_first places) next xs) h in
    let now = firsts (act_paints s q es told frame before x) before.painted (acts_paint out s q es fs (behind_first places) next xs) (acts_painted out s q es fs (behind_first places) next xs) painted in
    let later = others (act_paints s q es told frame before x) before.painted (acts_paint out s q es fs (behind_first places) next xs) (acts_painted out s q es fs (behind_first places) next xs) painted in
    (frame, (may_come s q es told frame before x two.0 now, leads out s q es fs (behind_first places) next xs two.1 later))

-- ---- the calls of a looper

-- the reply that is told, or this one
abbrev reply_or : Option Reply → Reply → Reply
reply_or None r = r
reply_or (Some told) r = told

-- the entries that were to come for these calls, as far as it is told
abbrev entries_for : List ℕ → List SentCall → List Entry → List (Option Entry)
entries_for tokens [] [] = []
entries_for tokens [] (e ∷ es) = []
entries_for tokens (x ∷ xs) [] = None ∷ []
entries_for tokens (x ∷ xs) (e ∷ es) = Some (record e { call = call_of tokens x.ask; reply = reply_or x.reply e.reply }) ∷ entries_for (tokens ++ token_in e.reply) xs es

abbrev plain_entry : Entry → Option Entry
plain_entry e = Some (record e { call = bare_call e.call })

abbrev call_in : Option Entry → Call
call_in None = Halt 0
call_in (Some e) = e.call

abbrev reply_in : Reply → Option Entry → Reply
reply_in r None = r
reply_in r (Some e) = e.reply

told_so : (o : Option Reply) (r : Reply) → reply_or o r ≡ r → MatchOption o (Unit {0}) (λ told. r ≡ told)
told_so None r e = tt
told_so (Some told) r e = sym e

sent_by_table : (tokens : List ℕ) (xs : List SentCall) (es : List Entry) → entries_for tokens xs es ≡ map plain_entry es → AreFor IsSent tokens xs es
sent_by_table tokens [] [] same = tt
sent_by_table tokens [] (e ∷ es) same = cc
sent_by_table tokens (x ∷ xs) [] same = cc
sent_by_table tokens (x ∷ xs) (e ∷ es) same =
    let one : Option Entry = Some (record e { call = call_of tokens x.ask; reply = reply_or x.reply e.reply }) in
    let first = firsts one (plain_entry e) (entries_for (tokens ++ token_in e.reply) xs es) (map plain_entry es) same in
    let rest = others one (plain_entry e) (entries_for (tokens ++ token_in e.reply) xs es) (map plain_entry es) same in
    (record { call = sym (ap call_in first); reply = told_so x.reply e.reply (ap (reply_in e.reply) first) }, sent_by_table (tokens ++ token_in e.reply) xs es rest)

-- ---- one looper

abbrev pub has_called_then : Script → QueueRecord → ℕ → Bool
has_called_then s r thread = are_on_time (map (λ l. InBlock l.time) (thread_lines s r.looper thread)) (befores thread (history_of r))

-- what is tested of a looper
pub record LooperTest : Type 0 where
  pub replies : List (Option Reply)
  pub timely : Bool
  pub numbered : Bool
  pub planned : List (List (Option Call))
  pub controlled : Bool
  pub lawful : Bool
  pub acts : Bool
  pub painted : List (List Act)
  pub left : List Act
  pub dispatches : List (ℕ × ℕ)
  pub calls : List (List (Option Entry))
  pub stamps : Bool
  pub asked : Bool
  pub on_time : Bool
  pub pulses : Bool
  pub pulses_first : Bool
  pub controls : Bool
  pub before_quit : Bool
  pub threads : List Bool
  pub in_order : Bool

abbrev pub final_of : Clause → Script → ℕ → Row → LooperState
final_of out s n row = led (with_pulses out s) n (history_of (queue_in s n row)) (with_stamps out row.frames) row.places (first_looper s) row.acts

abbrev caused_by : Clause → Script → ℕ → Row → QueueRecord → List SentCall
caused_by out s n row r = caused_on r.looper (final_of out s n row) n row.disposed_at

abbrev entries_there : Script → ℕ → QueueRecord → List Entry
entries_there s n r = entries_by (looper_sender s n) (history_of r)

-- what is found
abbrev found_in : Clause → Script → List QueueRecord → ℕ → Row → LooperTest
found_in out s queues n row =
    let q = queue_in s n row in
    let es = history_of q in
    let final = final_of out s n row in
    record {
      replies = answers (record_setting q) (empty_base q.senders) [] es;
      timely = are_timely (record_setting q) (empty_base q.senders) [] es;
      numbered = are_numbered (record_setting q) (empty_base q.senders) [] es;
      planned = down_from s.threads (λ thread. planned_calls s (labels_on n (lines_of thread s.blocks)) n [] (thread_lines s n thread) (entries_by thread es));
      controlled = unless out Controlled (is_controlled q.main q.lockstep (controller s) s.end es);
      lawful = unless out Lawful (lawful s.period (phase_count s.edition) row.frames);
      acts = acts_may out (with_pulses out s) n es (with_stamps out row.frames) row.places (first_looper s) row.acts;
      painted = acts_paint out (with_pulses out s) n es (with_stamps out row.frames) row.places (first_looper s) row.acts;
      left = kept out Settled final.painted;
      dispatches = kept out Takes (filter_map act_dispatch row.acts);
      calls = kept out Takes (map (λ r. entries_for [] (caused_by out s n row r) (entries_there s n r)) queues);
      stamps = unless out (Stamps 0) (unless out Pulses (are_stamped s.period row.frames));
      asked = unless out Asked (can_ask_in_turn (asks_in row.frames) (made_but out (asked_then s n final)));
      on_time = unless out OnTime (unless out Takes (list_all (λ r. are_on_time (map (λ x. x.timing) (caused_by out s n row r)) (befores (looper_sender s n) (history_of r))) queues));
      pulses = unless out Framed (unless out Awaited (has_frames row.acts final));
      pulses_first = unless out First (unless out Rising (pulses_come_first row.acts));
      controls = unless out Controls (is_called_in_time (controller s) es);
      before_quit = unless out BeforeQuit (are_before_quit s.threads (controller s) es);
      threads = kept out Threads (kept out Blocks (down_from s.threads (has_called_then s q)));
      in_order = unless out Order (unless out Blocks (are_in_order s n es));
    }

-- what is wanted
abbrev wanted_in : Clause → Script → List QueueRecord → ℕ → Row → LooperTest
wanted_in out s queues n row =
    let es = history_of (queue_in s n row) in
    record {
      replies = replies es;
      timely = true;
      numbered = true;
      planned = down_from s.threads (λ thread. made_calls (entries_by thread es));
      controlled = true;
      lawful = true;
      acts = true;
      painted = acts_painted out (with_pulses out s) n es (with_stamps out row.frames) row.places (first_looper s) row.acts;
      left = kept out Settled [];
      dispatches = kept out Takes (filter_map (λ e. call_dispatch e.call e.reply) (entries_there s n (queue_in s n row)));
      calls = kept out Takes (map (λ r. map plain_entry (entries_there s n r)) queues);
      stamps = true;
      asked = true;
      on_time = true;
      pulses = true;
      pulses_first = true;
      controls = true;
      before_quit = true;
      threads = kept out Threads (kept out Blocks (down_from s.threads (λ thread. true)));
      in_order = true;
    }

-- what follows for a looper
record IsLooperOf (out : Clause) (s : Script) (queues : List QueueRecord) (n : ℕ) (row : Row) : Type 0 where
  history : IsRecordOf in_lockstep all_entries s (queue_in s n row)
  planned : IsAsPlanned in_lockstep s (queue_in s n row)
  controlled : Unless out Controlled (IsControlled s (queue_in s n row))
  frames : IsFrameRunBut out s (frames_in s n row)
  looper : IsLooperRunBut out s queues (queue_in s n row) (journal n row.acts) (frames_in s n row)
  timely : IsTimelyBut out s (queue_in s n row)

all_planned : (s : Script) (r : QueueRecord) → ((thread : ℕ) → thread < s.threads → MakesThem s r thread) → IsAsPlanned in_lockstep s r
all_planned s r made thread lt =
    calls_by s (labels_on r.looper (lines_of thread s.blocks)) r.looper [] (thread_lines s r.looper thread) (entries_by thread (history_of r)) (made thread lt)

both_left : (b c test : Bool) (P : Type 0) → (test ≡ true → P) → (b || (c || test)) ≡ true → MatchBool b (Unit {0}) (MatchBool c (Unit {0}) P)
both_left b c test P sound h = unless_true b (c || test) (MatchBool c (Unit {0}) P) (unless_true c test P sound) h

looper_of : (out : Clause) (s : Script) (queues : List QueueRecord) (n : ℕ) (row : Row) → found_in out s queues n row ≡ wanted_in out s queues n row → IsLooperOf out s queues n row
looper_of out s queues n row e =
    let q = queue_in s n row in
    let es = history_of q in
    let final = final_of out s n row in
    record {
      history = history_by s q refl refl refl (refl, tt) (ap (λ (t : LooperTest). t.replies) e) (ap (λ (t : LooperTest). t.timely) e) (ap (λ (t : LooperTest). t.numbered) e);
      planned = all_planned s q (down_same s.threads (λ thread. planned_calls s (labels_on n (lines_of thread s.blocks)) n [] (thread_lines s n thread) (entries_by thread es)) (λ thread. made_calls (entries_by thread es)) (ap (λ (t : LooperTest). t.planned) e));
      controlled = unless_true (number_of out == number_of Controlled) _ _ (λ h. h) (ap (λ (t : LooperTest). t.controlled) e);
      frames = record {
        interval = refl;
        phases = refl;
        lawful = unless_true (number_of out == number_of Lawful) _ _ (λ h. h) (ap (λ (t : LooperTest). t.lawful) e);
        stamps = both_left (number_of out == number_of (Stamps 0)) (number_of out == number_of Pulses) _ _ (λ h. h) (ap (λ (t : LooperTest). t.stamps) e);
      };
      looper = record {
        final = final;
        acts = leads out (with_pulses out s) n es (with_stamps out row.frames) row.places (first_looper s) row.acts (ap (λ (t : LooperTest). t.acts) e) (ap (λ (t : LooperTest). t.painted) e);
        settled = kept_same (number_of out == number_of Settled) final.painted [] _ (λ same. same) (ap (λ (t : LooperTest). t.left) e);
        dispatches = kept_same (number_of out == number_of Takes) (filter_map act_dispatch row.acts) (filter_map (λ x. call_dispatch x.call x.reply) (entries_there s n q)) _ (λ same. same) (ap (λ (t : LooperTest). t.dispatches) e);
        disposed_at = row.disposed_at;
        calls = kept_same (number_of out == number_of Takes) (map (λ r. entries_for [] (caused_by out s n row r) (entries_there s n r)) queues) (map (λ r. map plain_entry (entries_there s n r)) queues) _
            (λ same. all_same (λ (r : QueueRecord). AreFor IsSent [] (caused_by out s n row r) (entries_there s n r)) (λ r. entries_for [] (caused_by out s n row r) (entries_there s n r)) (λ r. map plain_entry (entries_there s n r))
            (λ r one. sent_by_table [] (caused_by out s n row r) (entries_there s n r) one) queues same) (ap (λ (t : LooperTest). t.calls) e);
        asked = unless_true (number_of out == number_of Asked) _ _
            (λ h. asks_are_in_turn (asks_in row.frames) (made_but out (asked_then s n final)) h) (ap (λ (t : LooperTest). t.asked) e);
        on_time = both_left (number_of out == number_of OnTime) (number_of out == number_of Takes) _ _
            (λ h. all_by (λ (r : QueueRecord). are_on_time (map (λ x. x.timing) (caused_by out s n row r)) (befores (looper_sender s n) (history_of r)) ≡ true)
            (λ r. are_on_time (map (λ x. x.timing) (caused_by out s n row r)) (befores (looper_sender s n) (history_of r))) (λ r one. one) queues h) (ap (λ (t : LooperTest). t.on_time) e);
        pulses = both_left (number_of out == number_of Framed) (number_of out == number_of Awaited) _ _ (λ h. h) (ap (λ (t : LooperTest). t.pulses) e);
        pulses_first = both_left (number_of out == number_of First) (number_of out == number_of Rising) _ _ (λ h. h) (ap (λ (t : LooperTest). t.pulses_first) e);
      };
      timely = record {
        controls = unless_true (number_of out == number_of Controls) _ _ (λ h. h) (ap (λ (t : LooperTest). t.controls) e);
        before_quit = unless_true (number_of out == number_of BeforeQuit) _ _ (λ h. h) (ap (λ (t : LooperTest). t.before_quit) e);
        threads = kept_same (number_of out == number_of Threads) (kept out Blocks (down_from s.threads (has_called_then s q))) (kept out Blocks (down_from s.threads (λ thread. true))) _
            (λ same. kept_same (number_of out == number_of Blocks) (down_from s.threads (has_called_then s q)) (down_from s.threads (λ thread. true)) _
            (λ each. down_same s.threads (has_called_then s q) (λ thread. true) each) same) (ap (λ (t : LooperTest). t.threads) e);
        in_order = both_left (number_of out == number_of Order) (number_of out == number_of Blocks) _ _ (λ h. h) (ap (λ (t : LooperTest). t.in_order) e);
      };
    }

-- ---- the whole report

-- of each looper, by its number
abbrev each_from : {X : Type 0} → (ℕ → Row → X) → ℕ → List Row → List X
each_from f n [] = []
each_from f n (row ∷ rows) = f n row ∷ each_from f (n + 1) rows

-- a pulse comes at the greatest multiple of the period up to this time, and rounded up it is that time
abbrev is_pulse_time : ℕ → ℕ → Bool
is_pulse_time period t = is_pulse period (t * 1000000 / period * period) && millis_up (t * 1000000 / period * period) == t

abbrev may_move : Script → List (List Move) → (ℕ × ℕ) → Bool
may_move s all x = is_planned_time s x.1 || list_any (was_due_at x.0 x.1) all || is_pulse_time s.period x.1

moves_may : (s : Script) (all : List (List Move)) (x : ℕ × ℕ) → may_move s all x ≡ true → MayMoveTo s all x.0 x.1
moves_may s all x h =
    elim (or_cases (is_planned_time s x.1 || list_any (was_due_at x.0 x.1) all) (is_pulse_time s.period x.1) h) [
      | inl planned ↦ inl planned
      | inr comes ↦
          let stamp = x.1 * 1000000 / s.period * s.period in
          let p = and_parts (is_pulse s.period stamp) (millis_up stamp == x.1) comes in
          inr (record { stamp = stamp; pulse = p.0; rounded = eqb-true (millis_up stamp) x.1 p.1 })
    ]

-- main's moves behind those of each
abbrev with_main : List Move → List Move → List ℕ
with_main main ms = move_times ms ++ drop (length (move_times ms)) (move_times main)

-- what is tested of a report
pub record Test : Type 0 where
  pub numbers : List (List ℕ)
  pub loopers : List LooperTest
  pub halted : Bool
  pub due : Bool
  pub together : List (List ℕ)

abbrev moves_in : Script → List Row → List (List Move)
moves_in s rows = map (λ q. moves (controller s) (history_of q)) (queues_from s 0 rows)

abbrev pub found : Clause → Script → List Row → Test
found out s rows =
    let all = moves_in s rows in
    record {
      numbers = map (λ q. q.looper) (queues_from s 0 rows) ∷ map (λ j. j.looper) (journals_from 0 rows) ∷ map (λ f. f.looper) (frames_from s 0 rows) ∷ [];
      loopers = each_from (found_in out s (queues_from s 0 rows)) 0 rows;
      halted = unless out Halted (main_ends_halted (queues_from s 0 rows));
      due = unless out Due (list_all (may_move s all) (enumerate_from 0 (move_times (main_moves all))));
      together = kept out Together (map (with_main (main_moves all)) all);
    }

abbrev pub wanted : Clause → Script → List Row → Test
wanted out s rows =
    let all = moves_in s rows in
    record {
      numbers = range_with_len 0 s.loopers ∷ range_with_len 0 s.loopers ∷ range_with_len 0 s.loopers ∷ [];
      loopers = each_from (wanted_in out s (queues_from s 0 rows)) 0 rows;
      halted = true;
      due = true;
      together = kept out Together (map (λ ms. move_times (main_moves all)) all);
    }

-- each looper of a report
abbrev EachOf : (ℕ → Row → Type 0) → ℕ → List Row → Type 0
EachOf P n [] = Unit {0}
EachOf P n (row ∷ rows) = P n row × EachOf P (n + 1) rows

each_looper : (out : Clause) (s : Script) (queues : List QueueRecord) (n : ℕ) (rows : List Row)
    → each_from (found_in out s queues) n rows ≡ each_from (wanted_in out s queues) n rows → EachOf (IsLooperOf out s queues) n rows
each_looper out s queues n [] e = tt
each_looper out s queues n (row ∷ rows) e =
    let first = found_in out s queues n row in
    let second = wanted_in out s queues n row in
    let firsts_behind = each_from (found_in out s queues) (n + 1) rows in
    let seconds_behind = each_from (wanted_in out s queues) (n + 1) rows in
    (looper_of out s queues n row (firsts first second firsts_behind seconds_behind e), each_looper out s queues (n + 1) rows (others first second firsts_behind seconds_behind e))

module _ (P : ℕ → Row → Type 0) where
  of_queues : (s : Script) (Q : QueueRecord → Type 0) → ((n : ℕ) (row : Row) → P n row → Q (queue_in s n row)) → (n : ℕ) (rows : List Row) → EachOf P n rows → AllByRecursion Q (queues_from s n rows)
  of_queues s Q each n [] all = tt
  of_queues s Q each n (row ∷ rows) all = (each n row all.0, of_queues s Q each (n + 1) rows all.1)

  of_frames : (s : Script) (Q : FrameRecord → Type 0) → ((n : ℕ) (row : Row) → P n row → Q (frames_in s n row)) → (n : ℕ) (rows : List Row) → EachOf P n rows → AllByRecursion Q (frames_from s n rows)
  of_frames s Q each n [] all = tt
  of_frames s Q each n (row ∷ rows) all = (each n row all.0, of_frames s Q each (n + 1) rows all.1)

  of_loopers : (s : Script) (Q : QueueRecord → Journal → FrameRecord → Type 0) → ((n : ℕ) (row : Row) → P n row → Q (queue_in s n row) (journal n row.acts) (frames_in s n row)) → (n : ℕ) (rows : List Row) → EachOf P n rows
      → EachLooper Q (queues_from s n rows) (journals_from n rows) (frames_from s n rows)
  of_loopers s Q each n [] all = tt
  of_loopers s Q each n (row ∷ rows) all = (each n row all.0, of_loopers s Q each (n + 1) rows all.1)

-- the equation of these two makes the report a run but for the clause
pub run_but_by : (out : Clause) (s : Script) (rows : List Row) → found out s rows ≡ wanted out s rows → IsRunBut out s (report_of s rows)
run_but_by out s rows e =
    let queues = queues_from s 0 rows in
    let P = IsLooperOf out s queues in
    let each = each_looper out s queues 0 rows (ap (λ (t : Test). t.loopers) e) in
    let all = moves_in s rows in
    let numbers = ap (λ (t : Test). t.numbers) e in
    record {
      report = record {
        script = refl;
        queues = ap (first_or []) numbers;
        journals = ap (λ ns. first_or [] (behind_first ns)) numbers;
        frames = ap (λ ns. first_or [] (behind_first (behind_first ns))) numbers;
      };
      records = record { mode = refl; start = refl; histories = of_queues P s (IsRecordOf in_lockstep all_entries s) (λ n row l. l.history) 0 rows each };
      planned = of_queues P s (IsAsPlanned in_lockstep s) (λ n row l. l.planned) 0 rows each;
      controls = of_queues P s (λ (q : QueueRecord). Unless out Controlled (IsControlled s q)) (λ n row l. l.controlled) 0 rows each;
      frames = of_frames P s (IsFrameRunBut out s) (λ n row l. l.frames) 0 rows each;
      loopers = of_loopers P s (IsLooperRunBut out s queues) (λ n row l. l.looper) 0 rows each;
      halted = unless_true (number_of out == number_of Halted) _ _ (λ h. h) (ap (λ (t : Test). t.halted) e);
      histories = of_queues P s (IsTimelyBut out s) (λ n row l. l.timely) 0 rows each;
      moved = record {
        due = unless_true (number_of out == number_of Due) _ _ (λ h. all_by (λ (number, t). MayMoveTo s all number t) (may_move s all) (moves_may s all) (enumerate_from 0 (move_times (main_moves all))) h) (ap (λ (t : Test). t.due) e);
        together = kept_same (number_of out == number_of Together) (map (with_main (main_moves all)) all) (map (λ ms. move_times (main_moves all)) all) _
            (λ same. all_same (λ (ms : List Move). IsPrefix (move_times ms) (move_times (main_moves all))) (with_main (main_moves all)) (λ ms. move_times (main_moves all))
            (λ ms one. (drop (length (move_times ms)) (move_times (main_moves all)), one)) all same) (ap (λ (t : Test). t.together) e);
      };
    }

-- and where no clause is left out, a run
pub run_by : (s : Script) (rows : List Row) → found Nothing s rows ≡ wanted Nothing s rows → IsRun in_lockstep s (report_of s rows)
run_by s rows e = but.is_run s (report_of s rows) (run_but_by Nothing s rows e)

-- all with which the equation computes
unfoldable pub computing : Unit {0}
unfolding answer clock accepted_count barrier_count quit_place has_disposed has_halted live first_eligible pick made_count is_controlled
    lawful all_allowed is_allowed owed_callbacks next_phase last_time in_due_order before_later live_callbacks posted_count wanted_by
    after_act befores is_called_in_time are_before_quit are_in_order moves
computing = tt

-- ---- worked reports

-- a script, what is kept of each looper, and the lines of the report's text
pub record Worked : Type 0 where
  pub script : Script
  pub rows : List Row
  pub printed : List (List ℕ)

-- the report is a run of the script, and this is its text
pub record Holds (w : Worked) : Type 0 where
  pub runs : IsRun in_lockstep w.script (report_of w.script w.rows)
  pub prints : report_text (report_of w.script w.rows) ≡ page w.printed

pub holds : (w : Worked) → found Nothing w.script w.rows ≡ wanted Nothing w.script w.rows → report_text (report_of w.script w.rows) ≡ page w.printed → Holds w
holds w same text_is = record { runs = run_by w.script w.rows same; prints = text_is }

pub all_hold : (ws : List Worked) → map (λ w. found Nothing w.script w.rows) ws ≡ map (λ w. wanted Nothing w.script w.rows) ws
    → map (λ w. report_text (report_of w.script w.rows)) ws ≡ map (λ w. page w.printed) ws → AllByRecursion Holds ws
all_hold [] same prints = tt
all_hold (w ∷ ws) same prints =
    let first = firsts (found Nothing w.script w.rows) (wanted Nothing w.script w.rows) (map (λ v. found Nothing v.script v.rows) ws) (map (λ v. wanted Nothing v.script v.rows) ws) same in
    let rest = others (found Nothing w.script w.rows) (wanted Nothing w.script w.rows) (map (λ v. found Nothing v.script v.rows) ws) (map (λ v. wanted Nothing v.script v.rows) ws) same in
    let first_text = firsts (report_text (report_of w.script w.rows)) (page w.printed) (map (λ v. report_text (report_of v.script v.rows)) ws) (map (λ v. page v.printed) ws) prints in
    let texts = others (report_text (report_of w.script w.rows)) (page w.printed) (map (λ v. report_text (report_of v.script v.rows)) ws) (map (λ v. page v.printed) ws) prints in
    (holds w first first_text, all_hold ws rest texts)

-- one looper that runs no frame: the blocks of the script and its end, the queue's entries, the acts, and the lines behind the looper's number
abbrev pub one_looper : List Block → ℕ → List Entry → List Act → List (List ℕ) → Worked
one_looper blocks end es acts printed = record {
  script = plain_script 1 1 (handler_on 0 ∷ []) blocks end;
  rows = acting es acts 0 ∷ [];
  printed = codes "report 1" ∷ codes "looper 0" ∷ printed ++ codes "end" ∷ [];
}

-- all with which both equations compute
unfoldable pub printing : Unit {0}
unfolding computing report_text report_lines fates digits
printing = tt
