-- How C sees what a call answers.
use Rattle.std.specs.Prelude.{◌≡◌, ◌≢◌, ◌<◌, ◌/◌, ◌&&◌, ℕ, Bool, true, false, nat_lt, [], ◌∷◌, Option, Some, None, Result, Ok, Err, length, if◌then◌else◌}
use Rattle.std.specs.Prelude.{is_some}
use Rattle.std.specs.List.{list_any}
use Rattle.loop_model.specs.declared.memory.NoMemory.{NoMemory}
use Rattle.frame_phases.specs.State.{Frames, past, scheduled_at, next_callback, scheduling, posted, removed, delivered, BeginsBy, TakesBy}
use Rattle.frame_phases.specs.Frames.{removed_count, is_due, live_callbacks, next_phase}
use Rattle.frame_phases.specs.Pulses.{pulse}
use Rattle.frame_phases.specs.declared.entry.Callback.{Callback}
use Rattle.frame_phases.specs.declared.entry.Scheduling.{Scheduling}
use Rattle.frame_phases.specs.declared.entry.Scheduling.TheVariants.{Asked, Later, Already}
use Rattle.frame_phases.specs.declared.entry.Beginning.{Beginning}
use Rattle.frame_phases.specs.declared.entry.Beginning.TheVariants as begin
use Rattle.frame_phases.specs.declared.entry.Took.TheVariants as took
use Rattle.frame_phases_c.specs.declared.answers.FrameAnswer.{FrameAnswer}
use Rattle.frame_phases_c.specs.declared.answers.FrameLook.{FrameLook}
use Rattle.frame_phases_c.specs.declared.callback.FrameCallback.{FrameCallback}
use Rattle.frame_phases_c.specs.declared.steps.Start.{Start}
use Rattle.frame_phases_c.specs.declared.steps.Start.TheVariants as start
use Rattle.frame_phases_c.specs.declared.steps.Step.{Step}
use Rattle.frame_phases_c.specs.declared.steps.Step.TheVariants as step
use Rattle.frame_phases_c.specs.Contents.{Contents}

-- the answer of this kind
abbrev pub answer_as : ℕ → ℕ → ℕ → FrameAnswer
answer_as kind number time = record { number = number; time = time; kind = kind }

abbrev pub asked_kind : ℕ
asked_kind = 0

abbrev pub later_kind : ℕ
later_kind = 1

abbrev pub already_kind : ℕ
already_kind = 2

abbrev pub removed_kind : ℕ
removed_kind = 3

abbrev pub began_kind : ℕ
began_kind = 4

abbrev pub running_kind : ℕ
running_kind = 5

abbrev pub unscheduled_kind : ℕ
unscheduled_kind = 6

abbrev pub backwards_kind : ℕ
backwards_kind = 7

abbrev pub run_kind : ℕ
run_kind = 8

abbrev pub phase_kind : ℕ
phase_kind = 9

abbrev pub ended_kind : ℕ
ended_kind = 10

abbrev pub nothing_kind : ℕ
nothing_kind = 11

abbrev pub no_memory_kind : ℕ
no_memory_kind = 12

abbrev pub no_phase_kind : ℕ
no_phase_kind = 13

abbrev pub not_open_kind : ℕ
not_open_kind = 14

abbrev pub closed_kind : ℕ
closed_kind = 15

abbrev pub IsNotOpen : FrameAnswer → Type 0
IsNotOpen r = r ≡ answer_as not_open_kind 0 0

-- the token, where its flag says so
abbrev pub token_where : Bool → ℕ → Option ℕ
token_where has token = if has then Some token else None

abbrev pub number_or_0 : Option ℕ → ℕ
number_or_0 None = 0
number_or_0 (Some n) = n

-- a callback as C has it
abbrev pub fields_of : Callback → FrameCallback
fields_of c = record { due = c.due; id = c.id; token = number_or_0 c.token; phase = c.phase; has_token = is_some c.token }

abbrev pub shown_scheduling : Scheduling → FrameAnswer
shown_scheduling (Asked at) = answer_as asked_kind 0 at
shown_scheduling (Later due) = answer_as later_kind 0 due
shown_scheduling Already = answer_as already_kind 0 0

-- an answer, or out of memory
abbrev pub shown : Result FrameAnswer NoMemory → FrameAnswer
shown (Ok r) = r
shown (Err e) = answer_as no_memory_kind 0 0

-- what a posting answers and leaves: no such phase, or as the library's call
abbrev pub post_answer : Frames → FrameCallback → ℕ → FrameAnswer
post_answer x c now = if nat_lt c.phase x.phases then shown_scheduling (scheduling x c.due now) else answer_as no_phase_kind 0 0

abbrev pub post_left : Frames → FrameCallback → ℕ → Frames
post_left x c now = if nat_lt c.phase x.phases then posted x (next_callback x c.phase c.due c.id (token_where c.has_token c.token)) now else x

abbrev pub Posts : Frames → FrameCallback → ℕ → Result FrameAnswer NoMemory → Frames → Type 0
Posts x c now (Ok r) y = (r ≡ post_answer x c now) × (y ≡ post_left x c now)
Posts x c now (Err e) y = y ≡ x

-- what was recorded so far is dropped, and all that it led to stays
abbrev pub forgotten : Frames → Frames
forgotten x = record x { sealed = x.entries }

-- what a removal answers and leaves; of the callback its phase, id and token count
abbrev pub remove_answer : Frames → FrameCallback → FrameAnswer
remove_answer x c =
    if nat_lt c.phase x.phases
    then answer_as removed_kind (removed_count (past x) c.phase c.id (token_where c.has_token c.token)) 0 else answer_as no_phase_kind 0 0

abbrev pub remove_left : Frames → FrameCallback → Frames
remove_left x c = if nat_lt c.phase x.phases then removed (forgotten x) c.phase c.id (token_where c.has_token c.token) else x

-- a removal drops what was recorded before; where it then finds no memory, all else is as before
abbrev pub Removes : Frames → FrameCallback → Result FrameAnswer NoMemory → Frames → Type 0
Removes x c (Ok r) y = (r ≡ remove_answer x c) × (y ≡ remove_left x c)
Removes x c (Err e) y = y ≡ record x { sealed = y.sealed }

-- what a scheduling answers
abbrev pub shown_schedule : Option ℕ → FrameAnswer
shown_schedule None = answer_as already_kind 0 0
shown_schedule (Some at) = answer_as asked_kind 0 at

abbrev pub schedule_answer : Frames → ℕ → FrameAnswer
schedule_answer x now = shown_schedule (if x.scheduled then None else Some (pulse x.interval now))

-- whether the phase has a callback that is due
abbrev pub has_due : Frames → ℕ → ℕ → Bool
has_due x phase now = list_any (is_due phase (now / 1000000)) (live_callbacks (past x))

-- what a look for due callbacks of a phase answers and leaves: it schedules a frame where there is one
abbrev pub due_answer : Frames → ℕ → ℕ → FrameAnswer
due_answer x phase now =
    if nat_lt phase x.phases then (if has_due x phase now then schedule_answer x now else answer_as nothing_kind 0 0)
    else answer_as no_phase_kind 0 0

abbrev pub due_left : Frames → ℕ → ℕ → Frames
due_left x phase now = if nat_lt phase x.phases && has_due x phase now then scheduled_at x now else x

-- a pulse, where there is one
abbrev pub shown_pulse : Option ℕ → FrameAnswer
shown_pulse None = answer_as nothing_kind 0 0
shown_pulse (Some at) = answer_as asked_kind 0 at

abbrev pub deliver_left : Frames → ℕ → Frames
deliver_left x now = if is_some (delivered x.asked now) then record x { asked = None } else x

-- how a frame begins: not while callbacks of the latest one are to be handed out, and with what was recorded so far dropped
abbrev pub Starts : Contents → ℕ → ℕ → Start → Contents → Type 0
Starts a vsync at start.Waits b = (a.batch ≢ []) × (b ≡ a)
Starts a vsync at start.NoMemory b = (a.batch ≡ []) × (b ≡ a)
Starts a vsync at (start.Begins t) b =
    (a.batch ≡ []) × BeginsBy (forgotten a.frames) vsync at t b.frames × (b ≡ record a { frames = b.frames })

abbrev pub shown_beginning : Beginning → FrameAnswer
shown_beginning (begin.Began time) = answer_as began_kind 0 time
shown_beginning (begin.Running next) = answer_as running_kind 0 0
shown_beginning begin.Unscheduled = answer_as unscheduled_kind 0 0
shown_beginning (begin.Backwards last) = answer_as backwards_kind 0 last
shown_beginning begin.NoMemory = answer_as no_memory_kind 0 0

abbrev pub shown_start : Start → FrameAnswer
shown_start start.Waits = answer_as running_kind 0 0
shown_start start.NoMemory = answer_as no_memory_kind 0 0
shown_start (start.Begins t) = shown_beginning t

-- one step of a frame: the first callback that was taken is handed out, or else the next phase takes its own, or else no phase is left;
-- only the next phase of a frame in progress, which takes its own, may find no memory
abbrev pub Steps : Contents → ℕ → Step → Contents → Type 0
Steps a now (step.Run c time) b = (a.batch ≡ c ∷ b.batch) × (time ≡ a.time) × (b ≡ record a { batch = b.batch })
Steps a now (step.Phase phase time count) b =
    (a.batch ≡ []) × TakesBy a.frames phase now (took.Batch time b.batch) b.frames × (b.time ≡ time) × (count ≡ length b.batch)
Steps a now step.Ended b =
    (a.batch ≡ []) × ((phase : ℕ) → phase < a.frames.phases → next_phase a.frames.phases (past a.frames) ≢ Some phase) × (b ≡ a)
Steps a now step.NoMemory b = (a.batch ≡ []) × (is_some (next_phase a.frames.phases (past a.frames)) ≡ true) × (b ≡ a)

-- a try to take this phase: a step, or the phase that is to be taken instead, if any
abbrev pub TriesPhase : Contents → ℕ → ℕ → Result Step (Option ℕ) → Contents → Type 0
TriesPhase a phase now (Ok s) b = Steps a now s b
TriesPhase a phase now (Err next) b = (next ≡ next_phase a.frames.phases (past a.frames)) × (next ≢ Some phase) × (b ≡ a)

-- a callback of which nothing is set
abbrev pub no_callback : FrameCallback
no_callback = record { due = 0; id = 0; token = 0; phase = 0; has_token = false }

abbrev pub shown_step : Step → FrameLook
shown_step (step.Run c time) = record { callback = fields_of c; number = c.number; time = time; kind = run_kind }
shown_step (step.Phase phase time count) = record { callback = record no_callback { phase = phase }; number = count; time = time; kind = phase_kind }
shown_step step.Ended = record { callback = no_callback; number = 0; time = 0; kind = ended_kind }
shown_step step.NoMemory = record { callback = no_callback; number = 0; time = 0; kind = no_memory_kind }

abbrev pub HasNotOpen : FrameLook → Type 0
HasNotOpen r = r ≡ record { callback = no_callback; number = 0; time = 0; kind = not_open_kind }

-- what each call of C does, with some answer of the library that C sees so
abbrev pub ChangesFrames : (Frames → Frames → Type 0) → Contents → Contents → Type 0
ChangesFrames made a b = made a.frames b.frames × (b ≡ record a { frames = b.frames })

-- a pulse that was asked for and is no later than now was delivered
abbrev pub PulseShown : ℕ → FrameAnswer → Frames → Frames → Type 0
PulseShown now r x y = (r ≡ shown_pulse (delivered x.asked now)) × (y ≡ deliver_left x now)

abbrev pub PostShown : FrameCallback → ℕ → FrameAnswer → Frames → Frames → Type 0
PostShown c now r x y = (a : Result FrameAnswer NoMemory) × Posts x c now a y × (r ≡ shown a)

abbrev pub RemoveShown : FrameCallback → FrameAnswer → Frames → Frames → Type 0
RemoveShown c r x y = (a : Result FrameAnswer NoMemory) × Removes x c a y × (r ≡ shown a)

abbrev pub StartShown : ℕ → ℕ → FrameAnswer → Contents → Contents → Type 0
StartShown vsync at r a b = (s : Start) × Starts a vsync at s b × (r ≡ shown_start s)

abbrev pub StepShown : ℕ → FrameLook → Contents → Contents → Type 0
StepShown now r a b = (s : Step) × Steps a now s b × (r ≡ shown_step s)
