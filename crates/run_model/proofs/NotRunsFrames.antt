-- Reports that are no runs of their script: what is asked of a choreographer by lines, and its record has a fault.
use Rattle.std.proofs.Common.{◌≡◌, ℕ, Bool, true, List, [], ◌∷◌, ◌++◌, Some, None, refl}
use Rattle.std.specs.List.{AllByRecursion}
use Rattle.loop_model.specs.declared.call.Call.TheVariants as call
use Rattle.loop_model.specs.declared.reply.Reply.TheVariants as reply
use Rattle.loop_model.specs.declared.entry.Entry.{Entry}
use Rattle.loop_model.specs.declared.journal.Act.TheVariants as act
use Rattle.loop_model.specs.declared.journal.Route.TheVariants as route
use Rattle.frame_phases.specs.declared.entry.FrameEntry.{FrameEntry}
use Rattle.frame_phases.specs.declared.entry.FrameEntry.TheVariants as frame
use Rattle.frame_phases.specs.Frames.{lawful}
use Rattle.frame_phases.specs.Pulses.{are_stamped}
use Rattle.dash_script.specs.declared.script.Command.{Command}
use Rattle.dash_script.specs.declared.script.Command.TheVariants as command
use Rattle.dash_script.specs.declared.script.Line.{Line}
use Rattle.dash_script.specs.declared.script.Script.{Script}
use Rattle.dash_script.specs.Causes.{phase_count}
use Rattle.run_model.specs.Planned.{history_of}
use Rattle.run_model.specs.Moments.{in_lockstep}
use Rattle.run_model.specs.Loopers.{LooperState, first_looper, asked_then}
use Rattle.run_model.specs.FrameRecords.{asks_in}
use Rattle.run_model.specs.Run.{IsRun}
use Rattle.run_model.proofs.Examples.{entry, frame_message, halted_at, handler_on, block, by, plain_script, callback}
use Rattle.run_model.proofs.RunBut as but
use Rattle.run_model.proofs.Table.{Row, quiet, queue_in, report_of, computing}
use Rattle.run_model.proofs.Parting.{can_ask_in_turn, in_turn_can_ask}
use Rattle.run_model.proofs.Led.{any_led, led_passes}
use Rattle.run_model.proofs.OneFault.{Faulty, faulty, Fails, each_fails}

-- main's frame record tells what is asked for, in turn, by something that its acts may lead to
abbrev pub main_tells_asked : Script → List Row → Bool
main_tells_asked s [] = true
main_tells_asked s (row ∷ rows) =
    any_led (λ (b : LooperState). can_ask_in_turn (asks_in row.frames) (asked_then s 0 b)) s 0 (history_of (queue_in s 0 row)) row.frames (first_looper s) row.acts

pub told_by_run : (s : Script) (rows : List Row) → IsRun in_lockstep s (report_of s rows) → main_tells_asked s rows ≡ true
told_by_run s [] r = refl
told_by_run s (row ∷ rows) r =
    let l = r.loopers.0 in
    led_passes (λ (b : LooperState). can_ask_in_turn (asks_in row.frames) (asked_then s 0 b)) s 0 (history_of (queue_in s 0 row)) row.frames (first_looper s) row.acts l.final l.acts
    (in_turn_can_ask (asks_in row.frames) (asked_then s 0 l.final) l.asked)

-- a script with one line at its end, and this frame record
abbrev unasked : Command → List FrameEntry → Faulty
unasked line fs =
    faulty but.Asked (plain_script 1 1 (handler_on 0 ∷ []) (block 10 (by 0 line ∷ []) ∷ []) 10) (record (quiet (halted_at 2 10) 0) { frames = fs } ∷ [])

-- a frame line, whose callback is due at once
abbrev posts_frame : Command
posts_frame = command.Frame 0 3 8 0

-- a thread posts a frame callback and removes it
abbrev posts_and_removes : ℕ → List Line
posts_and_removes thread = by thread (command.Frame 0 0 8 0) ∷ by thread (command.Unframe 0 0 8) ∷ []

-- a frame at 17
abbrev one_frame_entries : List Entry
one_frame_entries =
    entry 2 0 (call.Advance 10) reply.Advanced ∷ entry 2 1 (call.Advance 17) reply.Advanced ∷ entry 1 0 (call.Post (frame_message 0 16 None)) (reply.Accepted 0)
    ∷ entry 1 1 (call.Next 17) (reply.Dispatched 0) ∷ entry 2 2 (call.Advance 20) reply.Advanced ∷ entry 2 3 (call.Halt 20) reply.Halted ∷ []

-- the record tells something else than the lines ask for
abbrev wrong_asks : List Faulty
wrong_asks =
    -- the line's callback is posted twice
    unasked posts_frame (frame.Posted (callback 0 3 10 8) ∷ frame.Posted (callback 1 3 10 8) ∷ [])
    -- it is posted for a later time
    ∷ unasked posts_frame (frame.Posted (callback 0 3 11 8) ∷ [])
    -- in another phase
    ∷ unasked posts_frame (frame.Posted (callback 0 2 10 8) ∷ [])
    -- with a token
    ∷ unasked posts_frame (frame.Posted (record (callback 0 3 10 8) { token = Some 1 }) ∷ [])
    -- it is removed, and no line asks for that
    ∷ unasked posts_frame (frame.Posted (callback 0 3 10 8) ∷ frame.Removed 3 8 None 1 ∷ [])
    -- it runs in a frame that no dispatch starts
    ∷ unasked posts_frame (
    frame.Posted (callback 0 3 10 8) ∷ frame.Begin 0 10000000 0 ∷ frame.Take 0 10000000 0 ∷ frame.Take 1 10000000 0 ∷ frame.Take 2 10000000 0
    ∷ frame.Take 3 10000000 0 ∷ frame.Ran 0 ∷ [])
    -- an unframe line removes nothing
    ∷ unasked (command.Unframe 0 3 8) []
    -- two threads post and remove each, and the record begins with a removal: each thread's two asks stand in it in their order, but not both threads'
    ∷ faulty but.Asked (plain_script 1 2 (handler_on 0 ∷ []) (block 10 (posts_and_removes 0 ++ posts_and_removes 1) ∷ []) 10) (record (quiet (halted_at 3 10) 0) {
      frames = frame.Removed 0 8 None 0 ∷ frame.Posted (callback 0 0 10 8) ∷ frame.Removed 0 8 None 1 ∷ frame.Posted (callback 1 0 10 8) ∷ [];
    } ∷ [])
    -- a thread posts and removes, and its record has the removal first: it takes nothing out, and the callback runs
    ∷ faulty but.Asked (plain_script 1 1 (handler_on 0 ∷ []) (block 10 (posts_and_removes 0) ∷ []) 20) (record {
      entries = one_frame_entries;
      acts = act.Vsync 16666667 ∷ act.Dispatch 0 17 route.Intercepted ∷ [];
      frames = frame.Removed 0 8 None 0 ∷ frame.Posted (callback 0 0 10 8) ∷ frame.Begin 16666667 17000000 16666667 ∷ frame.Take 0 17000000 16666667 ∷ frame.Ran 0
          ∷ frame.Take 1 17000000 16666667 ∷ frame.Take 2 17000000 16666667 ∷ frame.Take 3 17000000 16666667 ∷ [];
      places = None ∷ Some 2 ∷ [];
      disposed_at = 0;
    } ∷ [])
    ∷ []

pub wrong_asks_fail : AllByRecursion Fails wrong_asks
unfolding computing
wrong_asks_fail = each_fails main_tells_asked told_by_run wrong_asks refl refl

-- ---- the stamps of frames

-- main's frames have the stamps of pulses
abbrev is_main_stamped : Script → List Row → Bool
is_main_stamped s [] = true
is_main_stamped s (row ∷ rows) = are_stamped s.period row.frames

stamped_by_run : (s : Script) (rows : List Row) → IsRun in_lockstep s (report_of s rows) → is_main_stamped s rows ≡ true
stamped_by_run s [] r = refl
stamped_by_run s (row ∷ rows) r = r.frames.0.stamps

-- a thread posts a frame callback, and its frame, which comes by the pulse of 16666667, has this stamp and this time
abbrev stamped_at : ℕ → ℕ → Faulty
stamped_at stamp time = faulty (but.Stamps 16666667) (plain_script 1 1 (handler_on 0 ∷ []) (block 10 (by 0 (command.Frame 0 0 8 0) ∷ []) ∷ []) 20) (record {
  entries = one_frame_entries;
  acts = act.Vsync 16666667 ∷ act.Dispatch 0 17 route.Intercepted ∷ [];
  frames = frame.Posted (callback 0 0 10 8) ∷ frame.Begin stamp 17000000 time ∷ frame.Take 0 17000000 time ∷ frame.Ran 0
      ∷ frame.Take 1 17000000 time ∷ frame.Take 2 17000000 time ∷ frame.Take 3 17000000 time ∷ [];
  places = None ∷ Some 1 ∷ [];
  disposed_at = 0;
} ∷ [])

-- the stamp is of a moment at which no pulse comes
abbrev unstamped : List Faulty
unstamped = stamped_at 12345678 12345678 ∷ []

pub unstamped_fail : AllByRecursion Fails unstamped
unfolding computing
unstamped_fail = each_fails is_main_stamped stamped_by_run unstamped refl refl

-- it is not that of the latest pulse
abbrev not_latest : List Faulty
not_latest =
    -- but that of a pulse that is still to come
    stamped_at 33333334 17000000
    -- or 0, which it may be before the first one
    ∷ stamped_at 0 16666667
    ∷ []

pub not_latest_fail : AllByRecursion Fails not_latest
unfolding computing
not_latest_fail = each_fails main_tells_asked told_by_run not_latest refl refl

-- ---- unlawful records

-- main's frame record is lawful
abbrev is_main_lawful : Script → List Row → Bool
is_main_lawful s [] = true
is_main_lawful s (row ∷ rows) = lawful s.period (phase_count s.edition) row.frames

lawful_by_run : (s : Script) (rows : List Row) → IsRun in_lockstep s (report_of s rows) → is_main_lawful s rows ≡ true
lawful_by_run s [] r = refl
lawful_by_run s (row ∷ rows) r = r.frames.0.lawful

abbrev unlawful : List Faulty
unlawful =
    -- a frame callback that is posted at 10 with a delay of 20 runs in the frame at 17, with one that is posted without delay
    faulty but.Lawful (plain_script 1 1 (handler_on 0 ∷ []) (block 10 (by 0 (command.Frame 0 0 8 20) ∷ by 0 (command.Frame 0 0 9 0) ∷ []) ∷ []) 34) (record {
      entries = entry 2 0 (call.Advance 10) reply.Advanced ∷ entry 0 0 (call.Post (record (frame_message 0 30 None) { what = 2 })) (reply.Accepted 0)
          ∷ entry 2 1 (call.Advance 17) reply.Advanced ∷ entry 1 0 (call.Post (frame_message 0 16 None)) (reply.Accepted 1)
          ∷ entry 1 1 (call.Next 17) (reply.Dispatched 1) ∷ entry 2 2 (call.Advance 30) reply.Advanced ∷ entry 1 2 (call.Next 30) (reply.Dispatched 0)
          ∷ entry 2 3 (call.Advance 34) reply.Advanced ∷ entry 2 4 (call.Halt 34) reply.Halted ∷ [];
      acts = act.Vsync 16666667 ∷ act.Dispatch 1 17 route.Intercepted ∷ act.Dispatch 0 30 route.Intercepted ∷ [];
      frames = frame.Posted (callback 0 0 30 8) ∷ frame.Posted (callback 1 0 10 9) ∷ frame.Begin 16666667 17000000 16666667 ∷ frame.Take 0 17000000 16666667
          ∷ frame.Ran 1 ∷ frame.Ran 0
          ∷ frame.Take 1 17000000 16666667 ∷ frame.Take 2 17000000 16666667 ∷ frame.Take 3 17000000 16666667 ∷ [];
      places = None ∷ Some 2 ∷ [];
      disposed_at = 0;
    } ∷ [])
    ∷ []

pub unlawful_fail : AllByRecursion Fails unlawful
unfolding computing
unlawful_fail = each_fails is_main_lawful lawful_by_run unlawful refl refl
