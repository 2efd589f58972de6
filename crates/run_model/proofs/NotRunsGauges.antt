-- Reports that are no runs of their script: the frames, pulses and callbacks of a gauge, with one fault.
use Rattle.std.proofs.Common.{◌≡◌, ℕ, refl, true, false, List, [], ◌∷◌, ◌++◌, Some, None, ap}
use Rattle.std.specs.Prelude.{Bool}
use Rattle.loop_model.specs.declared.call.Call.TheVariants as call
use Rattle.loop_model.specs.declared.reply.Reply.TheVariants as reply
use Rattle.loop_model.specs.declared.entry.Entry.{Entry}
use Rattle.loop_model.specs.declared.journal.Act.{Act}
use Rattle.loop_model.specs.declared.journal.Act.TheVariants as act
use Rattle.frame_phases.specs.declared.entry.FrameEntry.{FrameEntry}
use Rattle.frame_phases.specs.declared.entry.FrameEntry.TheVariants as frame
use Rattle.dash_script.specs.declared.script.Command.TheVariants as command
use Rattle.dash_script.specs.declared.script.Script.{Script}
use Rattle.run_model.specs.Moments.{in_lockstep}
use Rattle.run_model.specs.Loopers.{LooperState, first_looper}
use Rattle.run_model.specs.Run.{IsRun}
use Rattle.run_model.proofs.Examples.{entry, handler_on, block, by, plain_script, message, frame_message, callback}
use Rattle.run_model.proofs.RunBut as but
use Rattle.run_model.proofs.Led.{led_passes}
use Rattle.run_model.proofs.NotRunsFrames.{told_by_run}
use Rattle.run_model.proofs.Table.{Row, acting, report_of, computing}
use Rattle.run_model.proofs.OneFault.{FailsBy, fails_by}
use Rattle.run_model.proofs.NotRuns.{dispatch, advance, look, halt}

-- one looper, with this history, these acts and this frame record; the frame that begins at place 2 is run by the fourth act
abbrev pub frame_rows : List Entry → List Act → List FrameEntry → List Row
frame_rows es acts fs = record { entries = es; acts = acts; frames = fs; places = None ∷ None ∷ None ∷ Some 2 ∷ []; disposed_at = 0 } ∷ []

-- a script whose gauge moves to its target in one frame, with this end
abbrev pub gauge_script : ℕ → Script
gauge_script end =
    record (plain_script 1 1 (handler_on 0 ∷ []) (block 0 (by 0 (command.Set 0 7) ∷ []) ∷ []) end) { gauges = record { handler = 0; step = 7 } ∷ [] }

-- the gauge's target is set
abbrev pub gauge_start : List Entry
gauge_start =
    entry 0 0 (call.Post (record (message 0 1 0 None) { arg = 7; obj = Some 0 })) (reply.Accepted 0) ∷ look 0 0 0
    ∷ entry 1 1 (call.Barrier 0) (reply.Token 0) ∷ []

-- its frame is run at this millisecond, with a message due at another
abbrev pub gauge_frame : ℕ → ℕ → List Entry
gauge_frame now when =
    advance 0 now ∷ entry 1 2 (call.Post (frame_message 0 when None)) (reply.Accepted 1) ∷ look 3 now 1 ∷ entry 1 4 (call.Unbarrier 0) reply.Unbarriered ∷ []

abbrev pub gauge_entries : List Entry
gauge_entries = gauge_start ++ gauge_frame 17 16 ++ advance 1 20 ∷ halt 2 ∷ []

-- it is moved at this pulse, in the frame of this millisecond
abbrev pub moves_gauge : ℕ → ℕ → List Act
moves_gauge stamp now = dispatch 0 0 ∷ act.Vsync stamp ∷ act.Paint 0 7 ∷ dispatch 1 now ∷ []

abbrev pub gauge_acts : List Act
gauge_acts = moves_gauge 16666667 17

-- the record of the gauge's run, with these moments of the frame's start and first phase, and with this behind its third phase
abbrev gauge_frames : ℕ → ℕ → List FrameEntry → List FrameEntry
gauge_frames start taken fs =
    frame.Posted (callback 0 1 0 1000000) ∷ frame.Posted (callback 1 2 0 1000016) ∷ frame.Begin 16666667 start 16666667 ∷ frame.Take 0 taken 16666667
    ∷ frame.Take 1 17000000 16666667 ∷ frame.Ran 0 ∷ frame.Take 2 17000000 16666667 ∷ frame.Ran 1 ∷ fs

abbrev last_phase : List FrameEntry
last_phase = frame.Take 3 17000000 16666667 ∷ []

abbrev gauge_rows : List FrameEntry → List Row
gauge_rows fs = frame_rows gauge_entries gauge_acts fs

-- a gauge's run, with these moments and phases of its frame
abbrev gauge_frame_fault : ℕ → ℕ → List FrameEntry → Type 0
gauge_frame_fault start taken behind = FailsBy but.Asked (gauge_script 20) (gauge_rows (gauge_frames start taken behind))

-- a frame starts half a millisecond behind its dispatch; one takes its first phase so much behind it; and the last one ends behind its third phase of four
pub wrong_frames_fail : gauge_frame_fault 17500000 17000000 last_phase × gauge_frame_fault 17000000 17500000 last_phase × gauge_frame_fault 17000000 17000000 []
unfolding computing
wrong_frames_fail = (
  fails_by but.Asked (gauge_script 20) (gauge_rows (gauge_frames 17500000 17000000 last_phase)) (λ r. let wrong : false ≡ true = told_by_run (gauge_script 20) (gauge_rows (gauge_frames 17500000 17000000 last_phase)) r in cc) refl,
  fails_by but.Asked (gauge_script 20) (gauge_rows (gauge_frames 17000000 17500000 last_phase)) (λ r. let wrong : false ≡ true = told_by_run (gauge_script 20) (gauge_rows (gauge_frames 17000000 17500000 last_phase)) r in cc) refl,
  fails_by but.Asked (gauge_script 20) (gauge_rows (gauge_frames 17000000 17000000 [])) (λ r. let wrong : false ≡ true = told_by_run (gauge_script 20) (gauge_rows (gauge_frames 17000000 17000000 [])) r in cc) refl,
)

abbrev pulse_entries : List Entry
pulse_entries = gauge_start ++ gauge_frame 16 16 ++ entry 2 1 (call.Halt 16) reply.Halted ∷ []

abbrev pulse_frames : List FrameEntry
pulse_frames =
    frame.Posted (callback 0 1 0 1000000) ∷ frame.Posted (callback 1 2 0 1000016) ∷ frame.Begin 16000000 16000000 16000000 ∷ frame.Take 0 16000000 16000000
    ∷ frame.Take 1 16000000 16000000 ∷ frame.Ran 0 ∷ frame.Take 2 16000000 16000000 ∷ frame.Ran 1 ∷ frame.Take 3 16000000 16000000 ∷ []

abbrev pulse_rows : List Row
pulse_rows = frame_rows pulse_entries (moves_gauge 16000000 16) pulse_frames

-- a pulse comes at 16 milliseconds, where no multiple of the period is
pub pulse_between : FailsBy but.Pulses (gauge_script 16) pulse_rows
unfolding computing
pulse_between = fails_by but.Pulses (gauge_script 16) pulse_rows (λ r. let pulse : false ≡ true = r.loopers.0.acts.1.1.1.0.1.pulse in cc) refl

-- the run ends before the pulse, and of the gauge's two callbacks that of the traversal alone is posted
abbrev short_entries : List Entry
short_entries = gauge_start ++ advance 0 10 ∷ entry 2 1 (call.Halt 10) reply.Halted ∷ []

abbrev short_frames : List FrameEntry
short_frames = frame.Posted (callback 0 2 0 1000016) ∷ []

abbrev short_acts : List Act
short_acts = dispatch 0 0 ∷ []

abbrev short_rows : List Row
short_rows = record (acting short_entries short_acts 0) { frames = short_frames } ∷ []

-- a gauge animates, and its callback is not posted
pub posts_no_frame : FailsBy but.Asked (gauge_script 10) short_rows
unfolding computing
posts_no_frame = fails_by but.Asked (gauge_script 10) short_rows (λ r. let wrong : false ≡ true = told_by_run (gauge_script 10) short_rows r in cc) refl

-- what is painted last is told
abbrev is_told : List Act → Bool
is_told [] = true
is_told (x ∷ xs) = false

abbrev tells_paints : LooperState → Bool
tells_paints b = is_told b.painted

abbrev painted_acts : List Act
painted_acts = gauge_acts ++ act.Paint 0 7 ∷ []

abbrev painted_rows : List Row
painted_rows = frame_rows gauge_entries painted_acts (gauge_frames 17000000 17000000 last_phase)

-- a gauge is painted once more behind the last dispatch
pub paints_behind : FailsBy but.Settled (gauge_script 20) painted_rows
unfolding computing
paints_behind = fails_by but.Settled (gauge_script 20) painted_rows no_run refl
  where
    no_run : IsRun in_lockstep (gauge_script 20) (report_of (gauge_script 20) painted_rows) → ⊥
    no_run r =
        let l = r.loopers.0 in
        let wrong : false ≡ true = led_passes tells_paints (gauge_script 20) 0 gauge_entries (gauge_frames 17000000 17000000 last_phase) (first_looper (gauge_script 20)) painted_acts l.final l.acts (ap is_told l.settled) in
        cc
