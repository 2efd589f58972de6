-- Reports that are no runs of their script: what is asked of a choreographer isn't asked in turn.
use Rattle.std.proofs.Common.{ℕ, List, [], ◌∷◌, ◌++◌, Option, Some, None, refl}
use Rattle.std.specs.List.{AllByRecursion}
use Rattle.loop_model.specs.declared.call.Call.TheVariants as call
use Rattle.loop_model.specs.declared.reply.Reply.TheVariants as reply
use Rattle.loop_model.specs.declared.entry.Entry.{Entry}
use Rattle.loop_model.specs.declared.journal.Act.{Act}
use Rattle.loop_model.specs.declared.journal.Act.TheVariants as act
use Rattle.loop_model.specs.declared.journal.Route.TheVariants as route
use Rattle.frame_phases.specs.declared.entry.FrameEntry.{FrameEntry}
use Rattle.frame_phases.specs.declared.entry.FrameEntry.TheVariants as frame
use Rattle.dash_script.specs.declared.script.Command.TheVariants as command
use Rattle.dash_script.specs.declared.script.Block.{Block}
use Rattle.dash_script.specs.declared.script.Script.{Script}
use Rattle.run_model.proofs.Examples.{entry, frame_message, handler_on, block, by, plain_script, callback}
use Rattle.run_model.proofs.RunBut.{Clause}
use Rattle.run_model.proofs.RunBut as but
use Rattle.run_model.proofs.Table.{computing}
use Rattle.run_model.proofs.OneFault.{Faulty, faulty, Fails, each_fails}
use Rattle.run_model.proofs.NotRunsFrames.{main_tells_asked, told_by_run}
use Rattle.run_model.proofs.NotRuns.{dispatch, advance, look}
use Rattle.run_model.proofs.NotRunsGauges.{gauge_start, gauge_script, gauge_entries, gauge_acts}

-- one frame at 17, a block behind it at 18, and two threads
abbrev two_blocks : List Block → Script
two_blocks blocks = plain_script 1 2 (handler_on 0 ∷ []) blocks 20

abbrev one_frame_entries : List Entry
one_frame_entries =
    entry 3 0 (call.Advance 10) reply.Advanced ∷ entry 3 1 (call.Advance 17) reply.Advanced ∷ entry 2 0 (call.Post (frame_message 0 16 None)) (reply.Accepted 0)
    ∷ entry 2 1 (call.Next 17) (reply.Dispatched 0) ∷ entry 3 2 (call.Advance 18) reply.Advanced ∷ entry 3 3 (call.Advance 20) reply.Advanced
    ∷ entry 3 4 (call.Halt 20) reply.Halted ∷ []

-- the frame, which runs these callbacks in its first phase
abbrev frame_at_17 : List FrameEntry → List FrameEntry
frame_at_17 ran =
    frame.Begin 16666667 17000000 16666667 ∷ frame.Take 0 17000000 16666667 ∷ ran
    ++ frame.Take 1 17000000 16666667 ∷ frame.Take 2 17000000 16666667 ∷ frame.Take 3 17000000 16666667 ∷ []

-- the frame begins at this place
abbrev one_frame : List Block → ℕ → List FrameEntry → Faulty
one_frame blocks place fs = faulty but.InTurn (two_blocks blocks) (record {
  entries = one_frame_entries;
  acts = act.Vsync 16666667 ∷ act.Dispatch 0 17 route.Intercepted ∷ [];
  frames = fs;
  places = None ∷ Some place ∷ [];
  disposed_at = 0;
} ∷ [])

-- a gauge's looper with a frame line in the block that sets the gauge, its frame record, and the places of the frames that its acts run
abbrev gauge_beside : Clause → ℕ → ℕ → List Entry → List Act → List FrameEntry → List (Option ℕ) → Faulty
gauge_beside clause end phase es acts fs places =
    faulty clause (record (gauge_script end) { blocks = block 0 (by 0 (command.Set 0 7) ∷ by 0 (command.Frame 0 phase 8 0) ∷ []) ∷ [] })
    (record { entries = es; acts = acts; frames = fs; places = places; disposed_at = 0 } ∷ [])

abbrev out_of_turn : List Faulty
out_of_turn =
    -- a callback is removed by a line of the block at 18, and the removal stands before the frame at 17, which doesn't run it
    one_frame (block 10 (by 0 (command.Frame 0 0 8 0) ∷ []) ∷ block 18 (by 1 (command.Unframe 0 0 8) ∷ []) ∷ []) 2
    (frame.Posted (callback 0 0 10 8) ∷ frame.Removed 0 8 None 1 ∷ frame_at_17 [])
    -- the removal stands within that frame, behind its Begin and before its first phase
    ∷ one_frame (block 10 (by 0 (command.Frame 0 0 8 0) ∷ []) ∷ block 18 (by 1 (command.Unframe 0 0 8) ∷ []) ∷ []) 1
    (frame.Posted (callback 0 0 10 8) ∷ frame.Begin 16666667 17000000 16666667 ∷ frame.Removed 0 8 None 1 ∷ frame.Take 0 17000000 16666667
    ∷ frame.Take 1 17000000 16666667 ∷ frame.Take 2 17000000 16666667 ∷ frame.Take 3 17000000 16666667 ∷ [])
    -- two callbacks are posted in the block at 10, and one of them stands behind the frame at 17
    ∷ one_frame (block 10 (by 0 (command.Frame 0 0 8 0) ∷ by 1 (command.Frame 0 0 9 0) ∷ []) ∷ block 18 [] ∷ []) 1
    (frame.Posted (callback 0 0 10 9) ∷ frame_at_17 (frame.Ran 0 ∷ []) ++ frame.Posted (callback 1 0 10 8) ∷ [])
    -- a line removes what a line of a later block posts
    ∷ one_frame (block 10 (by 1 (command.Unframe 0 0 8) ∷ []) ∷ block 16 (by 0 (command.Frame 0 0 8 0) ∷ []) ∷ block 18 [] ∷ []) 2
    (frame.Posted (callback 0 0 16 8) ∷ frame.Removed 0 8 None 1 ∷ frame_at_17 [])
    -- a gauge's callback stands before that of a line of the block that sets the gauge, and so runs before it
    ∷ gauge_beside but.InTurn 20 1 gauge_entries gauge_acts (
    frame.Posted (callback 0 1 0 1000000) ∷ frame.Posted (callback 1 2 0 1000016) ∷ frame.Posted (callback 2 1 0 8) ∷ frame.Begin 16666667 17000000 16666667
    ∷ frame.Take 0 17000000 16666667 ∷ frame.Take 1 17000000 16666667 ∷ frame.Ran 0 ∷ frame.Ran 2 ∷ frame.Take 2 17000000 16666667 ∷ frame.Ran 1
    ∷ frame.Take 3 17000000 16666667 ∷ []) (None ∷ None ∷ None ∷ Some 3 ∷ [])
    -- a gauge is set at the start, and its callback stands behind the frame at 17, so that it moves a frame too late
    ∷ gauge_beside but.Asked 40 0 (
    gauge_start ++ advance 0 17 ∷ entry 1 2 (call.Post (frame_message 0 16 None)) (reply.Accepted 1) ∷ look 3 17 1 ∷ advance 1 34
    ∷ entry 1 4 (call.Post (frame_message 0 33 None)) (reply.Accepted 2) ∷ look 5 34 2 ∷ entry 1 6 (call.Unbarrier 0) reply.Unbarriered ∷ advance 2 40
    ∷ entry 2 3 (call.Halt 40) reply.Halted ∷ [])
    (dispatch 0 0 ∷ act.Vsync 16666667 ∷ dispatch 1 17 ∷ act.Vsync 33333334 ∷ act.Paint 0 7 ∷ dispatch 2 34 ∷ []) (
    frame.Posted (callback 0 0 0 8) ∷ frame_at_17 (frame.Ran 0 ∷ []) ++ frame.Posted (callback 1 1 0 1000000) ∷ frame.Posted (callback 2 2 0 1000016)
    ∷ frame.Begin 33333334 34000000 33333334 ∷ frame.Take 0 34000000 33333334 ∷ frame.Take 1 34000000 33333334 ∷ frame.Ran 1 ∷ frame.Take 2 34000000 33333334
    ∷ frame.Ran 2 ∷ frame.Take 3 34000000 33333334 ∷ []) (None ∷ None ∷ Some 1 ∷ None ∷ None ∷ Some 9 ∷ [])
    -- a gauge takes its three steps in one frame
    ∷ faulty but.Asked (record (gauge_script 20) { gauges = record { handler = 0; step = 3 } ∷ [] }) (record {
      entries = gauge_entries;
      acts = gauge_acts;
      frames = frame.Posted (callback 0 1 0 1000000) ∷ frame.Posted (callback 1 2 0 1000016) ∷ frame.Begin 16666667 17000000 16666667 ∷ frame.Take 0 17000000 16666667
          ∷ frame.Posted (callback 2 1 17 1000000) ∷ frame.Posted (callback 3 1 17 1000000) ∷ frame.Take 1 17000000 16666667 ∷ frame.Ran 0 ∷ frame.Ran 2 ∷ frame.Ran 3
          ∷ frame.Take 2 17000000 16666667 ∷ frame.Ran 1 ∷ frame.Take 3 17000000 16666667 ∷ [];
      places = None ∷ None ∷ None ∷ Some 2 ∷ [];
      disposed_at = 0;
    } ∷ [])
    ∷ []

pub out_of_turn_fail : AllByRecursion Fails out_of_turn
unfolding computing
out_of_turn_fail = each_fails main_tells_asked told_by_run out_of_turn refl refl
