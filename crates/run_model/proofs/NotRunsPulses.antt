-- Reports that are no runs of their script: pulses don't rise, come at another time than their own, behind a dispatch of their own time, or before the frame of
-- the one before them, have no frame, or weren't wanted.
use Rattle.std.proofs.Common.{◌≡◌, ℕ, Bool, true, Option, List, [], ◌∷◌, ◌++◌, Some, None, refl}
use Rattle.std.specs.List.{AllByRecursion}
use Rattle.std.specs.Prelude.{map, length}
use Rattle.loop_model.specs.declared.call.Call.TheVariants as call
use Rattle.loop_model.specs.declared.reply.Reply.TheVariants as reply
use Rattle.loop_model.specs.declared.journal.Act.TheVariants as act
use Rattle.frame_phases.specs.declared.entry.FrameEntry.{FrameEntry}
use Rattle.frame_phases.specs.declared.entry.FrameEntry.TheVariants as frame
use Rattle.dash_script.specs.declared.script.Command.TheVariants as command
use Rattle.dash_script.specs.declared.script.Script.{Script}
use Rattle.run_model.specs.Planned.{history_of, looper_sender}
use Rattle.run_model.specs.Control.{befores, are_on_time}
use Rattle.run_model.specs.Moments.{in_lockstep}
use Rattle.run_model.specs.Loopers.{LooperState, first_looper, has_frames, pulses_come_first}
use Rattle.run_model.specs.Run.{IsRun, caused_on}
use Rattle.run_model.proofs.Examples.{entry, message, frame_message, handler_on, block, by, plain_script, callback}
use Rattle.run_model.proofs.RunBut as but
use Rattle.run_model.proofs.Table.{Row, queue_in, report_of, computing}
use Rattle.run_model.proofs.Led.{any_led, led_passes}
use Rattle.run_model.proofs.OneFault.{Faulty, faulty, Fails, each_fails}
use Rattle.run_model.proofs.NotRuns.{dispatch}
use Rattle.run_model.proofs.NotRunsFrames.{main_tells_asked, told_by_run}
use Rattle.loop_model.specs.declared.entry.Entry.{Entry}

-- a thread posts one frame callback
abbrev one_callback : ℕ → Script
one_callback end = plain_script 1 1 (handler_on 0 ∷ []) (block 10 (by 0 (command.Frame 0 0 8 0) ∷ []) ∷ []) end

-- the pulse of 16666667 comes twice, and starts a frame each time
abbrev twice : Row
twice = record {
  entries = entry 2 0 (call.Advance 10) reply.Advanced ∷ entry 2 1 (call.Advance 17) reply.Advanced
      ∷ entry 1 0 (call.Post (frame_message 0 16 None)) (reply.Accepted 0) ∷ entry 1 1 (call.Next 17) (reply.Dispatched 0)
      ∷ entry 1 2 (call.Post (frame_message 0 16 None)) (reply.Accepted 1) ∷ entry 1 3 (call.Next 17) (reply.Dispatched 1)
      ∷ entry 2 2 (call.Advance 20) reply.Advanced ∷ entry 2 3 (call.Halt 20) reply.Halted ∷ [];
  acts = act.Vsync 16666667 ∷ dispatch 0 17 ∷ act.Vsync 16666667 ∷ dispatch 1 17 ∷ [];
  frames = frame.Posted (callback 0 0 10 8) ∷ frame.Begin 16666667 17000000 16666667 ∷ frame.Take 0 17000000 16666667 ∷ frame.Ran 0
      ∷ frame.Take 1 17000000 16666667 ∷ frame.Take 2 17000000 16666667 ∷ frame.Take 3 17000000 16666667
      ∷ frame.Begin 16666667 17000000 16666667 ∷ frame.Take 0 17000000 16666667 ∷ frame.Take 1 17000000 16666667 ∷ frame.Take 2 17000000 16666667
      ∷ frame.Take 3 17000000 16666667 ∷ [];
  places = None ∷ Some 1 ∷ None ∷ Some 7 ∷ [];
  disposed_at = 0;
}

-- a frame at 34 for the pulse with this stamp and of this time, which runs these callbacks
abbrev frame_at_34 : ℕ → ℕ → List FrameEntry → List FrameEntry
frame_at_34 stamp time ran =
    frame.Begin stamp 34000000 time ∷ frame.Take 0 34000000 time ∷ ran ++ frame.Take 1 34000000 time ∷ frame.Take 2 34000000 time ∷ frame.Take 3 34000000 time ∷ []

-- a period of half a millisecond, which no text has, so that two pulses have one millisecond
abbrev two_a_millisecond : Script
two_a_millisecond = record (one_callback 40) { period = 500000 }

-- the pulse of 34000000 comes before that of 33500000, both at 34, and each starts a frame
abbrev backwards : Row
backwards = record {
  entries = entry 2 0 (call.Advance 10) reply.Advanced ∷ entry 2 1 (call.Advance 34) reply.Advanced
      ∷ entry 1 0 (call.Post (frame_message 0 34 None)) (reply.Accepted 0) ∷ entry 1 1 (call.Next 34) (reply.Dispatched 0)
      ∷ entry 1 2 (call.Post (frame_message 0 33 None)) (reply.Accepted 1) ∷ entry 1 3 (call.Next 34) (reply.Dispatched 1)
      ∷ entry 2 2 (call.Advance 40) reply.Advanced ∷ entry 2 3 (call.Halt 40) reply.Halted ∷ [];
  acts = act.Vsync 34000000 ∷ dispatch 0 34 ∷ act.Vsync 33500000 ∷ dispatch 1 34 ∷ [];
  frames = frame.Posted (callback 0 0 10 8) ∷ frame_at_34 34000000 34000000 (frame.Ran 0 ∷ []) ++ frame_at_34 33500000 34000000 [];
  places = None ∷ Some 1 ∷ None ∷ Some 7 ∷ [];
  disposed_at = 0;
}

-- both pulses come at 34 before the frame message of the first one is taken, and the frames that start are these, at these places
abbrev both_first : List FrameEntry → List (Option ℕ) → Row
both_first frames places = record {
  entries = entry 2 0 (call.Advance 10) reply.Advanced ∷ entry 2 1 (call.Advance 34) reply.Advanced
      ∷ entry 1 0 (call.Post (frame_message 0 33 None)) (reply.Accepted 0) ∷ entry 1 1 (call.Post (frame_message 0 34 None)) (reply.Accepted 1)
      ∷ entry 1 2 (call.Next 34) (reply.Dispatched 0) ∷ entry 1 3 (call.Next 34) (reply.Dispatched 1)
      ∷ entry 2 2 (call.Advance 40) reply.Advanced ∷ entry 2 3 (call.Halt 40) reply.Halted ∷ [];
  acts = act.Vsync 33500000 ∷ act.Vsync 34000000 ∷ dispatch 0 34 ∷ dispatch 1 34 ∷ [];
  frames = frame.Posted (callback 0 0 10 8) ∷ frames;
  places = None ∷ None ∷ places;
  disposed_at = 0;
}

abbrev not_rising : List Faulty
not_rising =
    -- one pulse is delivered twice
    faulty but.Rising (one_callback 20) (twice ∷ [])
    -- pulses come out of order
    ∷ faulty but.Rising two_a_millisecond (backwards ∷ [])
    ∷ []

pub not_rising_fail : AllByRecursion Fails not_rising
unfolding computing
not_rising_fail = each_fails main_tells_asked told_by_run not_rising refl refl

abbrev not_awaited : List Faulty
not_awaited =
    -- a pulse comes before the frame of the one before it has begun: the second frame message runs no frame
    faulty but.Awaited two_a_millisecond (both_first (frame_at_34 34000000 34000000 (frame.Ran 0 ∷ [])) (Some 1 ∷ None ∷ []) ∷ [])
    -- or it runs one more frame for the same pulse
    ∷ faulty but.Awaited two_a_millisecond (both_first (frame_at_34 34000000 34000000 (frame.Ran 0 ∷ []) ++ frame_at_34 34000000 34000000 []) (Some 1 ∷ Some 7 ∷ []) ∷ [])
    ∷ []

pub not_awaited_fail : AllByRecursion Fails not_awaited
unfolding computing
not_awaited_fail = each_fails main_tells_asked told_by_run not_awaited refl refl

-- ---- frame messages that run no frame

-- there is a frame for each pulse by something that main's acts may lead to
abbrev has_main_frames : Script → List Row → Bool
has_main_frames s [] = true
has_main_frames s (row ∷ rows) = any_led (has_frames row.acts) s 0 (history_of (queue_in s 0 row)) row.frames (first_looper s) row.acts

framed_by_run : (s : Script) (rows : List Row) → IsRun in_lockstep s (report_of s rows) → has_main_frames s rows ≡ true
framed_by_run s [] r = refl
framed_by_run s (row ∷ rows) r =
    let l = r.loopers.0 in led_passes (has_frames row.acts) s 0 (history_of (queue_in s 0 row)) row.frames (first_looper s) row.acts l.final l.acts l.pulses

-- the pulse of 16666667 comes, and its message runs no frame
abbrev unframed : List Faulty
unframed =
    -- the callback runs in the frame of the next pulse
    faulty but.Framed (one_callback 40) (record {
      entries = entry 2 0 (call.Advance 10) reply.Advanced ∷ entry 2 1 (call.Advance 17) reply.Advanced
          ∷ entry 1 0 (call.Post (frame_message 0 16 None)) (reply.Accepted 0) ∷ entry 1 1 (call.Next 17) (reply.Dispatched 0)
          ∷ entry 2 2 (call.Advance 34) reply.Advanced
          ∷ entry 1 2 (call.Post (frame_message 0 33 None)) (reply.Accepted 1) ∷ entry 1 3 (call.Next 34) (reply.Dispatched 1)
          ∷ entry 2 3 (call.Advance 40) reply.Advanced ∷ entry 2 4 (call.Halt 40) reply.Halted ∷ [];
      acts = act.Vsync 16666667 ∷ dispatch 0 17 ∷ act.Vsync 33333334 ∷ dispatch 1 34 ∷ [];
      frames = frame.Posted (callback 0 0 10 8) ∷ frame_at_34 33333334 33333334 (frame.Ran 0 ∷ []);
      places = None ∷ None ∷ None ∷ Some 1 ∷ [];
      disposed_at = 0;
    } ∷ [])
    -- it never runs
    ∷ faulty but.Framed (one_callback 20) (record {
      entries = entry 2 0 (call.Advance 10) reply.Advanced ∷ entry 2 1 (call.Advance 17) reply.Advanced
          ∷ entry 1 0 (call.Post (frame_message 0 16 None)) (reply.Accepted 0) ∷ entry 1 1 (call.Next 17) (reply.Dispatched 0)
          ∷ entry 2 2 (call.Advance 20) reply.Advanced ∷ entry 2 3 (call.Halt 20) reply.Halted ∷ [];
      acts = act.Vsync 16666667 ∷ dispatch 0 17 ∷ [];
      frames = frame.Posted (callback 0 0 10 8) ∷ [];
      places = None ∷ None ∷ [];
      disposed_at = 0;
    } ∷ [])
    ∷ []

pub unframed_fail : AllByRecursion Fails unframed
unfolding computing
unframed_fail = each_fails has_main_frames framed_by_run unframed refl refl

-- ---- a pulse before or behind its millisecond

-- main's calls on its queue are on time by something that its acts may lead to
abbrev calls_on_time : Script → Row → LooperState → Bool
calls_on_time s row b = are_on_time (map (λ x. x.timing) (caused_on 0 b 0 0)) (befores (looper_sender s 0) (history_of (queue_in s 0 row)))

abbrev is_main_on_time : Script → List Row → Bool
is_main_on_time s [] = true
is_main_on_time s (row ∷ rows) = any_led (calls_on_time s row) s 0 (history_of (queue_in s 0 row)) row.frames (first_looper s) row.acts

on_time_by_run : (s : Script) (rows : List Row) → IsRun in_lockstep s (report_of s rows) → is_main_on_time s rows ≡ true
on_time_by_run s [] r = refl
on_time_by_run s (row ∷ rows) r =
    let l = r.loopers.0 in led_passes (calls_on_time s row) s 0 (history_of (queue_in s 0 row)) row.frames (first_looper s) row.acts l.final l.acts l.on_time.0

abbrev early_pulses : List Faulty
early_pulses =
    -- the pulse of 16666667 comes at 16, the time of a block
    faulty but.OnTime (plain_script 1 1 (handler_on 0 ∷ []) (block 10 (by 0 (command.Frame 0 0 8 0) ∷ []) ∷ block 16 [] ∷ []) 20) (record {
      entries = entry 2 0 (call.Advance 10) reply.Advanced ∷ entry 2 1 (call.Advance 16) reply.Advanced
          ∷ entry 1 0 (call.Post (frame_message 0 16 None)) (reply.Accepted 0) ∷ entry 1 1 (call.Next 16) (reply.Dispatched 0)
          ∷ entry 2 2 (call.Advance 20) reply.Advanced ∷ entry 2 3 (call.Halt 20) reply.Halted ∷ [];
      acts = act.Vsync 16666667 ∷ dispatch 0 16 ∷ [];
      frames = frame.Posted (callback 0 0 10 8) ∷ frame.Begin 16666667 16000000 16000000 ∷ frame.Take 0 16000000 16000000 ∷ frame.Ran 0
          ∷ frame.Take 1 16000000 16000000 ∷ frame.Take 2 16000000 16000000 ∷ frame.Take 3 16000000 16000000 ∷ [];
      places = None ∷ Some 1 ∷ [];
      disposed_at = 0;
    } ∷ [])
    ∷ []

pub early_pulses_fail : AllByRecursion Fails early_pulses
unfolding computing
early_pulses_fail = each_fails is_main_on_time on_time_by_run early_pulses refl refl

-- the pulse of 16666667 comes at this time, in milliseconds and in nanoseconds, and the frame that it starts has this time
abbrev come_late : ℕ → ℕ → ℕ → Row
come_late now nanos time = record {
  entries = entry 2 0 (call.Advance 10) reply.Advanced ∷ entry 2 1 (call.Advance now) reply.Advanced
      ∷ entry 1 0 (call.Post (frame_message 0 16 None)) (reply.Accepted 0) ∷ entry 1 1 (call.Next now) (reply.Dispatched 0)
      ∷ entry 2 2 (call.Advance 40) reply.Advanced ∷ entry 2 3 (call.Halt 40) reply.Halted ∷ [];
  acts = act.Vsync 16666667 ∷ dispatch 0 now ∷ [];
  frames = frame.Posted (callback 0 0 10 8) ∷ frame.Begin 16666667 nanos time ∷ frame.Take 0 nanos time ∷ frame.Ran 0 ∷ frame.Take 1 nanos time
      ∷ frame.Take 2 nanos time ∷ frame.Take 3 nanos time ∷ [];
  places = None ∷ Some 1 ∷ [];
  disposed_at = 0;
}

abbrev late_pulses : List Faulty
late_pulses =
    -- the pulse of 16666667 comes at 18, the time of a block
    faulty but.OnTime (plain_script 1 1 (handler_on 0 ∷ []) (block 10 (by 0 (command.Frame 0 0 8 0) ∷ []) ∷ block 18 [] ∷ []) 40) (come_late 18 18000000 16666667 ∷ [])
    -- it comes at the time of the next one
    ∷ faulty but.OnTime (one_callback 40) (come_late 34 34000000 33333334 ∷ [])
    ∷ []

pub late_pulses_fail : AllByRecursion Fails late_pulses
unfolding computing
late_pulses_fail = each_fails is_main_on_time on_time_by_run late_pulses refl refl

-- ---- a pulse behind a dispatch of its own millisecond

-- main's pulses come before the dispatches of their own milliseconds
abbrev main_pulses_first : Script → List Row → Bool
main_pulses_first s [] = true
main_pulses_first s (row ∷ rows) = pulses_come_first row.acts

first_by_run : (s : Script) (rows : List Row) → IsRun in_lockstep s (report_of s rows) → main_pulses_first s rows ≡ true
first_by_run s [] r = refl
first_by_run s (row ∷ rows) r = r.loopers.0.pulses_first

abbrev not_first : List Faulty
not_first =
    -- the pulse of 16666667 comes at 17, behind a message that is due then
    faulty but.First (plain_script 1 1 (handler_on 0 ∷ []) (block 10 (by 0 (command.Frame 0 0 8 0) ∷ by 0 (command.Post 0 7 7) ∷ []) ∷ []) 20) (record {
      entries = entry 2 0 (call.Advance 10) reply.Advanced ∷ entry 0 0 (call.Post (message 0 7 17 None)) (reply.Accepted 0) ∷ entry 2 1 (call.Advance 17) reply.Advanced
          ∷ entry 1 0 (call.Next 17) (reply.Dispatched 0)
          ∷ entry 1 1 (call.Post (frame_message 0 16 None)) (reply.Accepted 1) ∷ entry 1 2 (call.Next 17) (reply.Dispatched 1)
          ∷ entry 2 2 (call.Advance 20) reply.Advanced ∷ entry 2 3 (call.Halt 20) reply.Halted ∷ [];
      acts = dispatch 0 17 ∷ act.Vsync 16666667 ∷ dispatch 1 17 ∷ [];
      frames = frame.Posted (callback 0 0 10 8) ∷ frame.Begin 16666667 17000000 16666667 ∷ frame.Take 0 17000000 16666667 ∷ frame.Ran 0
          ∷ frame.Take 1 17000000 16666667 ∷ frame.Take 2 17000000 16666667 ∷ frame.Take 3 17000000 16666667 ∷ [];
      places = None ∷ None ∷ Some 1 ∷ [];
      disposed_at = 0;
    } ∷ [])
    -- of two pulses of one millisecond the second one comes behind the first one's frame
    ∷ faulty but.First two_a_millisecond (record {
      entries = entry 2 0 (call.Advance 10) reply.Advanced ∷ entry 2 1 (call.Advance 34) reply.Advanced
          ∷ entry 1 0 (call.Post (frame_message 0 33 None)) (reply.Accepted 0) ∷ entry 1 1 (call.Next 34) (reply.Dispatched 0)
          ∷ entry 1 2 (call.Post (frame_message 0 34 None)) (reply.Accepted 1) ∷ entry 1 3 (call.Next 34) (reply.Dispatched 1)
          ∷ entry 2 2 (call.Advance 40) reply.Advanced ∷ entry 2 3 (call.Halt 40) reply.Halted ∷ [];
      acts = act.Vsync 33500000 ∷ dispatch 0 34 ∷ act.Vsync 34000000 ∷ dispatch 1 34 ∷ [];
      frames = frame.Posted (callback 0 0 10 8) ∷ frame_at_34 33500000 34000000 (frame.Ran 0 ∷ []) ++ frame_at_34 34000000 34000000 [];
      places = None ∷ Some 1 ∷ None ∷ Some 7 ∷ [];
      disposed_at = 0;
    } ∷ [])
    ∷ []

pub not_first_fail : AllByRecursion Fails not_first
unfolding computing
not_first_fail = each_fails main_pulses_first first_by_run not_first refl refl

-- ---- a pulse that nobody asked for

-- the pulse of 16666667 comes, and its frame runs no callback; a thread has made these calls, and the record begins with these entries
abbrev unwanted_at_17 : List Entry → ℕ → List FrameEntry → Row
unwanted_at_17 called accepted posted = record {
  entries = entry 2 0 (call.Advance 10) reply.Advanced ∷ called ++ entry 2 1 (call.Advance 17) reply.Advanced
      ∷ entry 1 0 (call.Post (frame_message 0 16 None)) (reply.Accepted accepted) ∷ entry 1 1 (call.Next 17) (reply.Dispatched accepted)
      ∷ entry 2 2 (call.Advance 20) reply.Advanced ∷ entry 2 3 (call.Halt 20) reply.Halted ∷ [];
  acts = act.Vsync 16666667 ∷ dispatch accepted 17 ∷ [];
  frames = posted ++ frame.Begin 16666667 17000000 16666667 ∷ frame.Take 0 17000000 16666667 ∷ frame.Take 1 17000000 16666667 ∷ frame.Take 2 17000000 16666667
      ∷ frame.Take 3 17000000 16666667 ∷ [];
  places = None ∷ Some (length posted) ∷ [];
  disposed_at = 0;
}

abbrev unwanted : List Faulty
unwanted =
    -- no callback is posted at all
    faulty but.Wanted (plain_script 1 1 (handler_on 0 ∷ []) (block 10 [] ∷ []) 20) (unwanted_at_17 [] 0 [] ∷ [])
    -- the one that is posted is due later
    ∷ faulty but.Wanted (plain_script 1 1 (handler_on 0 ∷ []) (block 10 (by 0 (command.Frame 0 0 8 20) ∷ []) ∷ []) 20)
    (unwanted_at_17 (entry 0 0 (call.Post (record (frame_message 0 30 None) { what = 2 })) (reply.Accepted 0) ∷ []) 1 (frame.Posted (callback 0 0 30 8) ∷ []) ∷ [])
    -- the one that is posted ran in the frame at 17, and the frame at 34 had none left for the pulse behind it
    ∷ faulty but.Wanted (one_callback 60) (record {
      entries = entry 2 0 (call.Advance 10) reply.Advanced ∷ entry 2 1 (call.Advance 17) reply.Advanced
          ∷ entry 1 0 (call.Post (frame_message 0 16 None)) (reply.Accepted 0) ∷ entry 1 1 (call.Next 17) (reply.Dispatched 0)
          ∷ entry 2 2 (call.Advance 34) reply.Advanced
          ∷ entry 1 2 (call.Post (frame_message 0 33 None)) (reply.Accepted 1) ∷ entry 1 3 (call.Next 34) (reply.Dispatched 1)
          ∷ entry 2 3 (call.Advance 51) reply.Advanced
          ∷ entry 1 4 (call.Post (frame_message 0 50 None)) (reply.Accepted 2) ∷ entry 1 5 (call.Next 51) (reply.Dispatched 2)
          ∷ entry 2 4 (call.Advance 60) reply.Advanced ∷ entry 2 5 (call.Halt 60) reply.Halted ∷ [];
      acts = act.Vsync 16666667 ∷ dispatch 0 17 ∷ act.Vsync 33333334 ∷ dispatch 1 34 ∷ act.Vsync 50000001 ∷ dispatch 2 51 ∷ [];
      frames = frame.Posted (callback 0 0 10 8) ∷ frame.Begin 16666667 17000000 16666667 ∷ frame.Take 0 17000000 16666667 ∷ frame.Ran 0
          ∷ frame.Take 1 17000000 16666667 ∷ frame.Take 2 17000000 16666667 ∷ frame.Take 3 17000000 16666667 ∷ frame_at_34 33333334 33333334 []
          ++ frame.Begin 50000001 51000000 50000001 ∷ frame.Take 0 51000000 50000001 ∷ frame.Take 1 51000000 50000001 ∷ frame.Take 2 51000000 50000001
          ∷ frame.Take 3 51000000 50000001 ∷ [];
      places = None ∷ Some 1 ∷ None ∷ Some 7 ∷ None ∷ Some 12 ∷ [];
      disposed_at = 0;
    } ∷ [])
    ∷ []

pub unwanted_fail : AllByRecursion Fails unwanted
unfolding computing
unwanted_fail = each_fails main_tells_asked told_by_run unwanted refl refl
