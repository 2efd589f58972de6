-- The controller's own calls on a queue, how it moves the queues' times, and when a history in lockstep is timely.
use Rattle.std.specs.Prelude.{ℕ, ◌==◌, Bool, true, false, ◌&&◌, ◌||◌, not, nat_le, nat_lt, List, [], ◌∷◌, ◌++◌, Option, Some, None, is_some, count_by}
use Rattle.std.specs.Prelude.{if◌then◌else◌, ◌≡◌, map, slice_get, ◌⊎◌}
use Rattle.std.specs.List.{list_any, AllByRecursion, enumerate_from, fold}
use Rattle.std.specs.Option.{option_map, option_map_or}
use mathlib.Core.List.{IsPrefix}
use Rattle.loop_model.specs.declared.call.Call.{Call}
use Rattle.loop_model.specs.declared.call.Call.TheVariants.{Quit, Advance, Halt}
use Rattle.loop_model.specs.declared.reply.Reply.{Reply}
use Rattle.loop_model.specs.declared.entry.Entry.{Entry}
use Rattle.loop_model.specs.declared.item.Item.{Item}
use Rattle.loop_model.specs.Items.{when_of}
use Rattle.loop_model.specs.Entries.{moment_of, is_quit_done, is_disposed, is_halted}
use Rattle.loop_model.specs.Base.{empty_base}
use Rattle.loop_model.specs.Pick.{first_eligible, pick}
use Rattle.loop_model.specs.Answers.{clock, has_disposed, quit_place}
use Rattle.loop_model.specs.declared.record.QueueRecord.{QueueRecord}
use Rattle.frame_phases.specs.Frames.{is_pulse}
use Rattle.dash_script.specs.declared.script.Script.{Script}
use Rattle.dash_script.specs.declared.script.Block.{Block}
use Rattle.run_model.specs.Planned.{entries_by, history_of}
use Rattle.run_model.specs.FrameRecords.{millis_up}

-- calls of a kind
abbrev pub is_advance : Call → Bool
is_advance (Advance now) = true
is_advance _ = false

abbrev pub is_halt : Call → Bool
is_halt (Halt now) = true
is_halt _ = false

abbrev pub is_quit : Call → Bool
is_quit (Quit safe now) = true
is_quit _ = false

abbrev pub is_safe_quit : Call → Bool
is_safe_quit (Quit safe now) = safe
is_safe_quit _ = false

-- the last call, in lockstep at the end, and in free mode no earlier: on main a Halt that is answered Halted, and elsewhere a safe quit
abbrev pub is_closing : Bool → Bool → ℕ → Entry → Bool
is_closing main lockstep end e =
    (if main then is_halt e.call && is_halted e.reply else is_safe_quit e.call)
    && (if lockstep then moment_of e.call == end else nat_le end (moment_of e.call))

-- the controller's entries are Advances up to the end in lockstep, and then the last call; elsewhere than on main it is left out only where another sender quit
-- the queue. That each Advance is later than the clock before it is said by its reply
abbrev pub is_empty : List Entry → Bool
is_empty [] = true
is_empty (e ∷ es) = false

abbrev pub are_controls : Bool → Bool → ℕ → Bool → List Entry → Bool
are_controls main lockstep end quit [] = not main && quit
are_controls main lockstep end quit (e ∷ es) =
    if is_advance e.call then lockstep && nat_le (moment_of e.call) end && are_controls main lockstep end quit es
    else is_empty es && is_closing main lockstep end e

-- the controller's entries are such, where another sender's quit may have been done, and each queue but main is disposed of once; the last entry is the Halt
unfoldable pub is_controlled : Bool → Bool → ℕ → ℕ → List Entry → Bool
is_controlled main lockstep controller end es =
    are_controls main lockstep end (list_any (λ e. is_quit_done e.reply && not (e.sender == controller)) es) (entries_by controller es)
    && (main || count_by (λ e. is_disposed e.reply) es == 1)

abbrev pub ends_halted : List Entry → Bool
ends_halted [] = false
ends_halted (e ∷ []) = is_halted e.reply
ends_halted (e ∷ f ∷ es) = ends_halted (f ∷ es)

-- the time moves past no message that may be dispatched, unless the queue is quitting; a quit is the queue's first, and comes where no such message is due
abbrev pub is_none_before : ℕ → Option Item → Bool
is_none_before time None = true
is_none_before time (Some x) = nat_le time (when_of x)

abbrev pub is_call_in_time : List Entry → Call → Reply → Bool
is_call_in_time past (Advance now) reply = is_none_before now (first_eligible (empty_base 0) past) && not (is_some (quit_place (empty_base 0) past))
is_call_in_time past (Quit safe now) reply = is_quit_done reply && not (is_some (pick (empty_base 0) past now))
is_call_in_time past _ reply = true

-- this is so of each entry and what stood before it, behind these entries
abbrev pub each_behind : (List Entry → Entry → Bool) → List Entry → List Entry → Bool
each_behind test past [] = true
each_behind test past (e ∷ es) = test past e && each_behind test (past ++ e ∷ []) es

-- each Advance and each quit of this sender is in time
unfoldable pub is_called_in_time : ℕ → List Entry → Bool
is_called_in_time sender es = each_behind (λ past e. not (e.sender == sender) || is_call_in_time past e.call e.reply) [] es

-- each call of a thread (the senders below this number) comes before this sender's quit
unfoldable pub are_before_quit : ℕ → ℕ → List Entry → Bool
are_before_quit threads sender es =
    each_behind (λ past e. not (nat_lt e.sender threads) || not (list_any (λ x. x.sender == sender && is_quit x.call) past)) [] es

-- what stood before an entry: the queue's time, and whether the queue was disposed of
pub record Before : Type 0 where
  pub clock : ℕ
  pub disposed : Bool

abbrev pub before : List Entry → Before
before past = record { clock = clock (empty_base 0) past; disposed = has_disposed (empty_base 0) past }

-- what stood before each entry that passes, behind these entries; and before each entry of a sender
abbrev pub befores_from : (Entry → Bool) → List Entry → List Entry → List Before
befores_from test past [] = []
befores_from test past (e ∷ es) = (if test e then before past ∷ [] else []) ++ befores_from test (past ++ e ∷ []) es

unfoldable pub befores : ℕ → List Entry → List Before
befores sender es = befores_from (λ e. e.sender == sender) [] es

-- when a call is to come in lockstep
pub data Timing : Type 0 where
  -- at this time, or after the queue was disposed of by then
  At : (time : ℕ) → Timing
  -- at this time and before the queue is disposed of, or after it was disposed of at an earlier time
  InBlock : (time : ℕ) → Timing
  -- at this time
  Exactly : (time : ℕ) → Timing
  -- at any time
  AnyTime : Timing

-- each of the calls is on time, by what stood before it, one for one
abbrev pub is_on_time : Timing → Before → Bool
is_on_time (At time) b = b.clock == time || b.disposed && nat_le b.clock time
is_on_time (InBlock time) b = if b.disposed then nat_lt b.clock time else b.clock == time
is_on_time (Exactly time) b = b.clock == time
is_on_time AnyTime _ = true

abbrev pub are_on_time : List Timing → List Before → Bool
are_on_time [] [] = true
are_on_time (t ∷ ts) (b ∷ bs) = is_on_time t b && are_on_time ts bs
are_on_time _ _ = false

-- a move of a queue's time: to when, and the due time of the first message that might be dispatched just before it, if there was one
pub record Move : Type 0 where
  pub to : ℕ
  pub due : Option ℕ

-- the moves of a queue's time by this sender, in order
abbrev pub moves_after : ℕ → List Entry → List Entry → List Move
moves_after sender past [] = []
moves_after sender past (e ∷ es) =
    (if e.sender == sender && is_advance e.call
    then record { to = moment_of e.call; due = option_map when_of (first_eligible (empty_base 0) past) } ∷ [] else [])
    ++ moves_after sender (past ++ e ∷ []) es

unfoldable pub moves : ℕ → List Entry → List Move
moves sender es = moves_after sender [] es

-- the times to which these moves go; and the moves of main, whose queue comes first
abbrev pub move_times : List Move → List ℕ
move_times ms = map (λ m. m.to) ms

abbrev pub main_moves : List (List Move) → List Move
main_moves [] = []
main_moves (ms ∷ all) = ms

-- a block has this time, or the end; or just before the move of this number the first message that might be dispatched was due then
abbrev pub is_planned_time : Script → ℕ → Bool
is_planned_time s t = t == s.end || list_any (λ b. b.time == t) s.blocks

abbrev pub was_due_at : ℕ → ℕ → List Move → Bool
was_due_at number t ms = option_map_or (λ m. option_map_or (λ d. d == t) m.due false) (slice_get ms number) false

-- a pulse may come at this time in milliseconds, rounded up
pub record IsPulseTime (period t : ℕ) : Type 0 where
  pub stamp : ℕ
  pub pulse : is_pulse period stamp ≡ true
  pub rounded : millis_up stamp ≡ t

-- the move of this number may go to this time: a block's, the end, one at which the first message that may be dispatched on a queue is due, or a pulse's
abbrev pub MayMoveTo : Script → List (List Move) → ℕ → ℕ → Type 0
MayMoveTo s all number t = (is_planned_time s t || list_any (was_due_at number t) all ≡ true) ⊎ IsPulseTime s.period t

-- each move of main goes to such a time, and each queue is moved with main, for as long as it is moved
pub record AreMovedTogether (s : Script) (all : List (List Move)) : Type 0 where
  pub due : AllByRecursion (λ (number, t). MayMoveTo s all number t) (enumerate_from 0 (move_times (main_moves all)))
  pub together : AllByRecursion (λ (ms : List Move). IsPrefix (move_times ms) (move_times (main_moves all))) all

-- since the time was last moved, or from the start, only entries of this kind have come
unfoldable pub is_fresh : (Entry → Bool) → List Entry → Bool
is_fresh theirs es = fold (λ fresh e. is_advance e.call || (fresh && theirs e)) true es

-- the time of each of these blocks is the start's, or the queue's time was moved to it
unfoldable pub is_reached : ℕ → List Entry → Bool
is_reached time es = time == 0 || list_any (λ e. is_advance e.call && moment_of e.call == time) es

abbrev pub AreReached : List Block → List Entry → Type 0
AreReached blocks es = AllByRecursion (λ (b : Block). is_reached b.time es ≡ true) blocks

-- on each queue threads (the senders below this number) call where only threads have since the time was last moved, or behind the queue's disposal
unfoldable pub come_first : ℕ → List Entry → Bool
come_first threads es =
    each_behind (λ past e. not (nat_lt e.sender threads) || (has_disposed (empty_base 0) past || is_fresh (λ x. nat_lt x.sender threads) past)) [] es

abbrev pub AreBlocksFirst : Script → List QueueRecord → Type 0
AreBlocksFirst s queues = AllByRecursion (λ (q : QueueRecord). come_first s.threads (history_of q) ≡ true) queues

-- main's time was moved to the time of each block, but for one at the start; main's queue comes first
abbrev pub main_entries : List QueueRecord → List Entry
main_entries [] = []
main_entries (q ∷ queues) = history_of q

abbrev pub AreBlocksReached : Script → List QueueRecord → Type 0
AreBlocksReached s queues = AreReached s.blocks (main_entries queues)
