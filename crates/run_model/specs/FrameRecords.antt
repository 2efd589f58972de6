-- A choreographer's record: the callbacks that each phase of a frame runs, and what the senders of a run asked for, and when.
use Rattle.std.specs.Prelude.{ℕ, ◌+◌, ◌-◌, ◌*◌, ◌^◌, ◌==◌, min, Bool, true, false, ◌&&◌, nat_le, List, [], ◌∷◌, ◌++◌, Option, Some, None, take, drop, slice_get}
use Rattle.std.specs.Prelude.{reverse, map, if◌then◌else◌, ◌≡◌, ◌/◌}
use Rattle.std.specs.List.{filter_map, before_first, range_with_len}
use Rattle.std.specs.Option.{option_map_or, option_map}
use Rattle.std.specs.List.Sorted.{IsNonDecreasingBy}
use Rattle.frame_phases.specs.declared.entry.FrameEntry.{FrameEntry}
use Rattle.frame_phases.specs.declared.entry.FrameEntry.TheVariants.{Posted, Begin, Take, Ran, Removed}
use Rattle.frame_phases.specs.Parting.{AreParted}
use Rattle.frame_phases.specs.Pulses.{wanted_by}
use Rattle.dash_script.specs.declared.script.Command.{Command}
use Rattle.dash_script.specs.declared.script.Command.TheVariants.{Frame, Unframe}
use Rattle.run_model.specs.Planned.{TimedCommand, frame_due}

-- a frame begins; and the identity of the callback that an entry posts: callbacks are numbered in the order of posting
abbrev pub is_begin : FrameEntry → Bool
is_begin (Begin v s t) = true
is_begin _ = false

abbrev pub posted_id : FrameEntry → Option ℕ
posted_id (Posted c) = Some c.id
posted_id _ = None

-- the numbers of the callbacks that the first entries hand out; and of those that are handed out right behind the first taking of this phase
abbrev pub handed_first : List FrameEntry → List ℕ
handed_first (Ran n ∷ fs) = n ∷ handed_first fs
handed_first _ = []

abbrev pub handed_in : ℕ → List FrameEntry → List ℕ
handed_in phase [] = []
handed_in phase (Take p now time ∷ fs) = if p == phase then handed_first fs else handed_in phase fs
handed_in phase (_ ∷ fs) = handed_in phase fs

-- the identities of the callbacks that this phase of the frame beginning at a place runs, in order: it is taken before the next Begin
abbrev pub phase_ids : List FrameEntry → ℕ → ℕ → List ℕ
phase_ids fs place phase = filter_map (slice_get (filter_map posted_id fs)) (handed_in phase (before_first is_begin (drop (place + 1) fs)))

-- the same of each of so many phases, in order
abbrev pub frame_ids : ℕ → List FrameEntry → ℕ → List (List ℕ)
frame_ids phases fs place = map (phase_ids fs place) (range_with_len 0 phases)

-- a frame begins there, no earlier than it may, or there is none
abbrev pub is_frame_from : List FrameEntry → ℕ → Option ℕ → Bool
is_frame_from fs first None = true
is_frame_from fs first (Some place) = nat_le first place && option_map_or is_begin (slice_get fs place) false

-- a frame begins here, with this stamp; the frame that begins at a place has this stamp, or there is none
abbrev pub begins_with : ℕ → FrameEntry → Bool
begins_with stamp (Begin vsync start time) = vsync == stamp
begins_with stamp _ = false

abbrev pub has_stamp : List FrameEntry → Option ℕ → ℕ → Bool
has_stamp fs None stamp = true
has_stamp fs (Some place) stamp = option_map_or (begins_with stamp) (slice_get fs place) false

-- a pulse with this stamp was wanted: since the frame before this place, and before the next one, a callback was live that is due by its millisecond
abbrev pub was_wanted : List FrameEntry → ℕ → ℕ → Bool
was_wanted fs place stamp = wanted_by (stamp / 1000000) (reverse (take place fs ++ before_first is_begin (drop place fs)))

-- behind a dispatch: how many frames ran, and where the next one may begin
abbrev pub frames_after : ℕ → Option ℕ → ℕ
frames_after n None = n
frames_after n (Some place) = n + 1

abbrev pub place_after : ℕ → Option ℕ → ℕ
place_after first None = first
place_after first (Some place) = place + 1

-- a time in milliseconds in nanoseconds, at most the greatest number of 64 bits; and one in nanoseconds in whole milliseconds, rounded up
abbrev pub nanos_of : ℕ → ℕ
nanos_of millis = min (millis * 1000000) (2 ^ 64 - 1)

abbrev pub millis_up : ℕ → ℕ
millis_up nanos = (nanos + 999999) / 1000000

-- what is asked of a choreographer
pub data FrameAsk : Type 0 where
  -- to post a callback, due at this millisecond
  Posts : (phase due id : ℕ) (token : Option ℕ) → FrameAsk
  -- to remove the callbacks of this phase and identity, and of this token if there is one
  Removes : (phase id : ℕ) (token : Option ℕ) → FrameAsk
  -- to begin a frame that starts at this moment
  Begins : (start : ℕ) → FrameAsk
  -- to take this phase of it at this moment
  Takes : (phase moment : ℕ) → FrameAsk

-- what the entries of a frame record were asked for by, in order
abbrev pub asked_in : FrameEntry → Option FrameAsk
asked_in (Posted c) = Some (Posts c.phase c.due c.id c.token)
asked_in (Removed phase id token count) = Some (Removes phase id token)
asked_in (Begin vsync start time) = Some (Begins start)
asked_in (Take phase now time) = Some (Takes phase now)
asked_in _ = None

abbrev pub asks_in : List FrameEntry → List FrameAsk
asks_in fs = filter_map asked_in fs

-- what a line asks of the choreographer of a looper, where it asks anything
abbrev pub line_asks : ℕ → TimedCommand → Option FrameAsk
line_asks looper l = of_command l.command
  where
    of_command : Command → Option FrameAsk
    of_command (Frame lp phase id delay) = if lp == looper then Some (Posts phase (frame_due l.time delay) id None) else None
    of_command (Unframe lp phase id) = if lp == looper then Some (Removes phase id None) else None
    of_command _ = None

-- an ask, and when it is made: in the block of this time, or in a round of loopers at this time, which comes behind the block
pub record TimedAsk : Type 0 where
  pub when : ℕ
  pub ask : FrameAsk

abbrev pub in_block : ℕ → ℕ
in_block time = 2 * time

abbrev pub in_round : ℕ → ℕ
in_round time = 2 * time + 1

-- what lines ask of the choreographer of a looper, each in its block
abbrev pub lines_ask_then : ℕ → List TimedCommand → List TimedAsk
lines_ask_then looper ls = filter_map (λ l. option_map (λ a. record { when = in_block l.time; ask = a }) (line_asks looper l)) ls

-- what a looper asks of its own choreographer, each in a round at the time at which a callback is to be due, a frame to start or a phase to be taken;
-- it removes none
abbrev pub asked_for : FrameAsk → ℕ
asked_for (Posts phase due id token) = due
asked_for (Removes phase id token) = 0
asked_for (Begins start) = start / 1000000
asked_for (Takes phase moment) = moment / 1000000

abbrev pub asked_in_rounds : List FrameAsk → List TimedAsk
asked_in_rounds asks = map (λ a. record { when = in_round (asked_for a); ask = a }) asks

-- what is told of an ask in a mode: in free mode a due time and a frame's moments are left open, and when it is made
abbrev pub as_told : Bool → FrameAsk → FrameAsk
as_told lockstep (Posts phase due id token) = Posts phase (if lockstep then due else 0) id token
as_told lockstep (Removes phase id token) = Removes phase id token
as_told lockstep (Begins start) = Begins (if lockstep then start else 0)
as_told lockstep (Takes phase moment) = Takes phase (if lockstep then moment else 0)

abbrev pub timed_as_told : Bool → TimedAsk → TimedAsk
timed_as_told lockstep x = record { when = if lockstep then x.when else 0; ask = as_told lockstep x.ask }

-- each of the asks is one sender's, and each sender asks for its own in this order; and none stands before one that is made earlier: all this as told
pub record AreAskedInTurn (lockstep : Bool) (asks : List FrameAsk) (by_sender : List (List TimedAsk)) : Type 0 where
  pub timed : List TimedAsk
  pub asks_are : map (λ x. x.ask) timed ≡ map (as_told lockstep) asks
  pub in_turn : IsNonDecreasingBy (λ x. x.when) timed
  pub parted : AreParted timed (map (map (timed_as_told lockstep)) by_sender)
