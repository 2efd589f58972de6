-- Worked reports: frames, and a gauge that moves.
use Rattle.std.proofs.Common.{ℕ, Option, List, [], ◌∷◌, Some, None, refl}
use Rattle.std.specs.Prelude.{codes}
use Rattle.std.specs.List.{AllByRecursion}
use Rattle.loop_model.specs.declared.call.Call.TheVariants as call
use Rattle.loop_model.specs.declared.reply.Reply.TheVariants as reply
use Rattle.loop_model.specs.declared.entry.Entry.{Entry}
use Rattle.frame_phases.specs.declared.entry.FrameEntry.{FrameEntry}
use Rattle.frame_phases.specs.declared.entry.FrameEntry.TheVariants as frame
use Rattle.dash_script.specs.declared.script.Command.TheVariants as command
use Rattle.dash_script.specs.declared.script.Script.{Script}
use Rattle.loop_model.specs.declared.journal.Act.TheVariants as act
use Rattle.loop_model.specs.declared.journal.Route.TheVariants as route
use Rattle.run_model.proofs.Examples.{entry, frame_message, handler_on, block, by, plain_script, callback, message}
use Rattle.run_model.proofs.Table.{Worked, Holds, all_hold, printing}
use Rattle.loop_model.specs.declared.journal.Act.{Act}

-- A frame callback that comes due later.
abbrev frame_comes_due : Worked
frame_comes_due = record {
  script = plain_script 1 1 (handler_on 0 ∷ []) (block 10 (by 0 (command.Frame 0 3 8 20) ∷ []) ∷ []) 60;
  rows =
      record {
        entries = (
            entry 2 0 (call.Advance 10) reply.Advanced ∷
            entry 0 0 (call.Post (record (frame_message 0 30 None) { what = 2; arg = 3 })) (reply.Accepted 0) ∷
            entry 2 1 (call.Advance 30) reply.Advanced ∷
            entry 1 0 (call.Next 30) (reply.Dispatched 0) ∷
            entry 2 2 (call.Advance 34) reply.Advanced ∷
            entry 1 1 (call.Post (frame_message 0 33 None)) (reply.Accepted 1) ∷
            entry 1 2 (call.Next 34) (reply.Dispatched 1) ∷
            entry 2 3 (call.Advance 60) reply.Advanced ∷
            entry 2 4 (call.Halt 60) reply.Halted ∷ []
            );
        acts = act.Dispatch 0 30 route.Intercepted ∷ act.Vsync 33333334 ∷ act.Dispatch 1 34 route.Intercepted ∷ [];
        frames = frame.Posted (callback 0 3 30 8) ∷ frame.Begin 33333334 34000000 33333334 ∷ frame.Take 0 34000000 33333334 ∷ frame.Take 1 34000000 33333334 ∷ frame.Take 2 34000000 33333334 ∷ frame.Take 3 34000000 33333334 ∷ frame.Ran 0 ∷ [];
        places = None ∷ None ∷ Some 1 ∷ [];
        disposed_at = 0;
      }
      ∷ [];
  printed = codes "report 1" ∷ codes "looper 0" ∷ codes "30 dispatch 0 64 2" ∷ codes "34 dispatch 1 64 0" ∷ codes "fates accepted 2 dispatched 2 removed 0 dropped 0 stranded 0 queued 0" ∷ codes "frame 33333334" ∷ codes "run 3 8" ∷ codes "end" ∷ [];
}

-- A frame callback that is removed before its frame.
abbrev frame_removed : Worked
frame_removed = record {
  script =
      plain_script 1 1 (handler_on 0 ∷ []) (block 10 (by 0 (command.Frame 0 0 8 0) ∷ by 0 (command.Unframe 0 0 8) ∷ []) ∷ []) 20;
  rows =
      record {
        entries = (
            entry 2 0 (call.Advance 10) reply.Advanced ∷
            entry 2 1 (call.Advance 17) reply.Advanced ∷
            entry 1 0 (call.Post (frame_message 0 16 None)) (reply.Accepted 0) ∷
            entry 1 1 (call.Next 17) (reply.Dispatched 0) ∷
            entry 2 2 (call.Advance 20) reply.Advanced ∷
            entry 2 3 (call.Halt 20) reply.Halted ∷ []
            );
        acts = act.Vsync 16666667 ∷ act.Dispatch 0 17 route.Intercepted ∷ [];
        frames = frame.Posted (callback 0 0 10 8) ∷ frame.Removed 0 8 None 1 ∷ frame.Begin 16666667 17000000 16666667 ∷ frame.Take 0 17000000 16666667 ∷ frame.Take 1 17000000 16666667 ∷ frame.Take 2 17000000 16666667 ∷ frame.Take 3 17000000 16666667 ∷ [];
        places = None ∷ Some 2 ∷ [];
        disposed_at = 0;
      }
      ∷ [];
  printed = codes "report 1" ∷ codes "looper 0" ∷ codes "17 dispatch 0 64 0" ∷ codes "fates accepted 1 dispatched 1 removed 0 dropped 0 stranded 0 queued 0" ∷ codes "frame 16666667" ∷ codes "end" ∷ [];
}

abbrev gauge_moves_entries : List Entry
gauge_moves_entries =
    entry 0 0 (call.Post (record (message 0 1 0 None) { arg = 7; obj = Some 0 })) (reply.Accepted 0) ∷
    entry 1 0 (call.Next 0) (reply.Dispatched 0) ∷
    entry 1 1 (call.Barrier 0) (reply.Token 0) ∷
    entry 2 0 (call.Advance 17) reply.Advanced ∷
    entry 1 2 (call.Post (frame_message 0 16 None)) (reply.Accepted 1) ∷
    entry 1 3 (call.Next 17) (reply.Dispatched 1) ∷
    entry 1 4 (call.Unbarrier 0) reply.Unbarriered ∷
    entry 2 1 (call.Advance 34) reply.Advanced ∷
    entry 1 5 (call.Post (frame_message 0 33 None)) (reply.Accepted 2) ∷
    entry 1 6 (call.Next 34) (reply.Dispatched 2) ∷
    entry 1 7 (call.Barrier 34) (reply.Token 1) ∷
    entry 1 8 (call.Unbarrier 1) reply.Unbarriered ∷
    entry 2 2 (call.Advance 51) reply.Advanced ∷
    entry 1 9 (call.Post (frame_message 0 50 None)) (reply.Accepted 3) ∷
    entry 1 10 (call.Next 51) (reply.Dispatched 3) ∷
    entry 1 11 (call.Barrier 51) (reply.Token 2) ∷
    entry 1 12 (call.Unbarrier 2) reply.Unbarriered ∷
    entry 2 3 (call.Advance 67) reply.Advanced ∷
    entry 1 13 (call.Post (frame_message 0 66 None)) (reply.Accepted 4) ∷
    entry 1 14 (call.Next 67) (reply.Dispatched 4) ∷
    entry 2 4 (call.Advance 70) reply.Advanced ∷
    entry 2 5 (call.Halt 70) reply.Halted ∷ []

abbrev gauge_moves_acts : List Act
gauge_moves_acts =
    act.Dispatch 0 0 route.Intercepted ∷ act.Vsync 16666667 ∷ act.Paint 0 3 ∷ act.Dispatch 1 17 route.Intercepted ∷ act.Vsync 33333334 ∷ act.Paint 0 6 ∷ act.Dispatch 2 34 route.Intercepted ∷ act.Vsync 50000001 ∷ act.Paint 0 7 ∷ act.Dispatch 3 51 route.Intercepted ∷ act.Vsync 66666668 ∷ act.Dispatch 4 67 route.Intercepted ∷ []

-- a gauge that moves to its target in three frames, and an empty frame: the report's first line, the line of a traversal, the frame record, and the places in it of the frames that the acts run
abbrev gauge_moving : Script → List ℕ → List ℕ → List FrameEntry → List (Option ℕ) → Worked
gauge_moving s first traversal fs places = record {
  script = s;
  rows = record { entries = gauge_moves_entries; acts = gauge_moves_acts; frames = fs; places = places; disposed_at = 0 } ∷ [];
  printed = first ∷ codes "looper 0" ∷ codes "0 dispatch 0 0 1" ∷ codes "17 dispatch 1 64 0" ∷ codes "34 dispatch 2 64 0" ∷ codes "51 dispatch 3 64 0" ∷ codes "67 dispatch 4 64 0" ∷ codes "fates accepted 5 dispatched 5 removed 0 dropped 0 stranded 0 queued 0" ∷ codes "paint 0 3" ∷ codes "paint 0 6" ∷ codes "paint 0 7" ∷ codes "frame 16666667" ∷ codes "run 1 1000000" ∷ traversal ∷ codes "frame 33333334" ∷ codes "run 1 1000000" ∷ traversal ∷ codes "frame 50000001" ∷ codes "run 1 1000000" ∷ traversal ∷ codes "frame 66666668" ∷ codes "end" ∷ [];
}

abbrev gauge_script : Script
gauge_script =
    record (plain_script 1 1 (handler_on 0 ∷ []) (block 0 (by 0 (command.Set 0 7) ∷ []) ∷ []) 70) { gauges = record { handler = 0; step = 3 } ∷ [] }

abbrev frames : List Worked
frames =
    frame_comes_due
    ∷ frame_removed
    ∷ gauge_moving gauge_script (codes "report 1") (codes "run 2 1000016") (
    frame.Posted (callback 0 1 0 1000000) ∷ frame.Posted (callback 1 2 0 1000016) ∷ frame.Begin 16666667 17000000 16666667 ∷ frame.Take 0 17000000 16666667 ∷ frame.Take 1 17000000 16666667 ∷ frame.Ran 0 ∷ frame.Posted (callback 2 1 17 1000000) ∷ frame.Take 2 17000000 16666667 ∷ frame.Ran 1 ∷ frame.Take 3 17000000 16666667 ∷ frame.Begin 33333334 34000000 33333334 ∷ frame.Take 0 34000000 33333334 ∷ frame.Take 1 34000000 33333334 ∷ frame.Ran 2 ∷ frame.Posted (callback 3 2 34 1000016) ∷ frame.Posted (callback 4 1 34 1000000) ∷ frame.Take 2 34000000 33333334 ∷ frame.Ran 3 ∷ frame.Take 3 34000000 33333334 ∷ frame.Begin 50000001 51000000 50000001 ∷ frame.Take 0 51000000 50000001 ∷ frame.Take 1 51000000 50000001 ∷ frame.Ran 4 ∷ frame.Posted (callback 5 2 51 1000016) ∷ frame.Take 2 51000000 50000001 ∷ frame.Ran 5 ∷ frame.Take 3 51000000 50000001 ∷ frame.Begin 66666668 67000000 66666668 ∷ frame.Take 0 67000000 66666668 ∷ frame.Take 1 67000000 66666668 ∷ frame.Take 2 67000000 66666668 ∷ frame.Take 3 67000000 66666668 ∷ []
    ) (None ∷ None ∷ None ∷ Some 2 ∷ None ∷ None ∷ Some 10 ∷ None ∷ None ∷ Some 19 ∷ None ∷ Some 27 ∷ [])
    -- the same in the second edition
    ∷ gauge_moving (record gauge_script { edition = 2 }) (codes "report 2") (codes "run 3 1000016") (
    frame.Posted (callback 0 1 0 1000000) ∷ frame.Posted (callback 1 3 0 1000016) ∷ frame.Begin 16666667 17000000 16666667 ∷ frame.Take 0 17000000 16666667 ∷ frame.Take 1 17000000 16666667 ∷ frame.Ran 0 ∷ frame.Posted (callback 2 1 17 1000000) ∷ frame.Take 2 17000000 16666667 ∷ frame.Take 3 17000000 16666667 ∷ frame.Ran 1 ∷ frame.Take 4 17000000 16666667 ∷ frame.Begin 33333334 34000000 33333334 ∷ frame.Take 0 34000000 33333334 ∷ frame.Take 1 34000000 33333334 ∷ frame.Ran 2 ∷ frame.Posted (callback 3 3 34 1000016) ∷ frame.Posted (callback 4 1 34 1000000) ∷ frame.Take 2 34000000 33333334 ∷ frame.Take 3 34000000 33333334 ∷ frame.Ran 3 ∷ frame.Take 4 34000000 33333334 ∷ frame.Begin 50000001 51000000 50000001 ∷ frame.Take 0 51000000 50000001 ∷ frame.Take 1 51000000 50000001 ∷ frame.Ran 4 ∷ frame.Posted (callback 5 3 51 1000016) ∷ frame.Take 2 51000000 50000001 ∷ frame.Take 3 51000000 50000001 ∷ frame.Ran 5 ∷ frame.Take 4 51000000 50000001 ∷ frame.Begin 66666668 67000000 66666668 ∷ frame.Take 0 67000000 66666668 ∷ frame.Take 1 67000000 66666668 ∷ frame.Take 2 67000000 66666668 ∷ frame.Take 3 67000000 66666668 ∷ frame.Take 4 67000000 66666668 ∷ []
    ) (None ∷ None ∷ None ∷ Some 2 ∷ None ∷ None ∷ Some 11 ∷ None ∷ None ∷ Some 21 ∷ None ∷ Some 30 ∷ [])
    ∷ []

pub frames_hold : AllByRecursion Holds frames
unfolding printing
frames_hold = all_hold frames refl refl
