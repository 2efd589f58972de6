-- What a looper's code serves, and what its steps do, by the place where it runs.
use Rattle.std.specs.Prelude.{◌≡◌, ◌==◌, ◌++◌, ℕ, Bool, Option, List, map, slice_get}
use Rattle.std.specs.Option.{option_map_or}
use Rattle.loop_model.specs.declared.post.Post.{Post as PostData}
use Rattle.looper_run.specs.Holding.{KeptOwn as Own}
use Rattle.looper_run.specs.Holding.{workplace, held}
use Rattle.choreographer.specs.declared.hosted.Pulse.{Pulse}
use Rattle.choreographer.specs.Known.{SharedFrames, Pass}
use Rattle.choreographer.specs.Calls.{PulsedBy, DueBy}
use Rattle.run_model.specs.FrameRecords.{nanos_of}
use Rattle.run_model.specs.Loopers.{LooperState, frame_ran, paints}
use Rattle.run_model.specs.Parts.{animation_ran}
use Rattle.run_model.specs.Planned.{frame_handler}
use Rattle.dash_hall.specs.declared.host.Host.{Host}
use Rattle.dash_hall.specs.Hosts.{sends_by}
use Rattle.dash_script.specs.declared.script.Script.{Script}
use Rattle.dash_loopers.specs.declared.player.Parts.{Parts}
use Rattle.dash_loopers.specs.declared.player.Place.{Place}
use Rattle.dash_loopers.specs.declared.view_root.ViewRoot.{ViewRoot}
use Rattle.dash_loopers.specs.Players.{ServesAt}
use Rattle.dash_loopers.specs.Played.{calls_of, standing, gauge_fixed, fixed_by, paint_of, MayTell, MayTellAll, RanFrame, EndsLatest, StepsRoot, Plays, PlaysAt}
use Rattle.dash_loopers.specs.Played.{Delivers, DeliversPulse, Pulses}

-- the code works at the queue of the place's looper, with what it is lent, and these are the looper's parts
abbrev pub ServesOn : {R : Type 0} → Place R → Parts → Own → Type 0
ServesOn place parts own = ServesAt place.script.now place.hall.now place.looper parts (workplace (held own))

-- a step of all that the place's looper has
abbrev pub PlayStep : {R : Type 0} → Place R → (LooperState → LooperState) → Own → Own → Parts → Parts → Type 0
PlayStep place step own own' parts parts' = Plays place.script.now place.looper step (calls_of own.poster.now) parts (calls_of own'.poster.now) parts'

-- a step of all that the place's looper has at this moment, told at each time that a run may tell of it
abbrev pub PlayStepAt : {R : Type 0} → Place R → ℕ → (ℕ → LooperState → LooperState) → Own → Own → Parts → Parts → Type 0
PlayStepAt place now step own own' parts parts' =
    PlaysAt place.script.now place.looper now step (calls_of own.poster.now) parts (calls_of own'.poster.now) parts'

-- a message was delivered at this moment; where all answers that pass the test are of one time, a frame that it began is told at it
abbrev pub DeliversOn : {R : Type 0} → Place R → ℕ → (ℕ → Bool) → PostData → Own → Own → Parts → Parts → Type 0
DeliversOn place now is_moment m own own' parts parts' =
    Delivers place.script.now place.looper now is_moment m (calls_of own.poster.now) (calls_of own'.poster.now) parts parts'
    own.journal.now.acts own'.journal.now.acts

-- one turn at this moment schedules a frame where the phase has a due callback and no frame is scheduled
abbrev pub SchedulesIfDue : ℕ → ℕ → Pass → Pass → Type 0
SchedulesIfDue now phase before after = (scheduled : Bool) × DueBy before after (λ n. n == nanos_of now) phase scheduled

-- one turn of the looper's pass at this moment delivers the pulse that is asked for, where it is due, and the looper's poster sends the frame message then
abbrev pub PulsedOn : {R : Type 0} → Place R → ℕ → Own → Own → Parts → Parts → Option Pulse → Type 0
PulsedOn place now own own' parts parts' pulse =
    PulsedBy parts.frames parts'.frames (λ n. n == nanos_of now)
    (sends_by (frame_handler place.looper) own.poster.now) (sends_by (frame_handler place.looper) own'.poster.now) pulse

-- what came of a pulse at this moment
abbrev pub DeliversPulseOn : {R : Type 0} → Place R → ℕ → Own → Own → Parts → Parts → Option Pulse → Type 0
DeliversPulseOn place now own own' parts parts' pulse =
    DeliversPulse place.script.now place.looper now (calls_of own.poster.now) (calls_of own'.poster.now) parts parts' pulse

-- a pulse was delivered at this moment and told, or none came
abbrev pub PulsesOn : {R : Type 0} → Place R → ℕ → Own → Own → Parts → Parts → Type 0
PulsesOn place now own own' parts parts' =
    Pulses place.script.now place.looper now (calls_of own.poster.now) (calls_of own'.poster.now) parts parts' own.journal.now.acts own'.journal.now.acts

-- a step of the view root, by what its host has called, told at each time that a run may tell of the host's moment
abbrev pub ShowsOn : {R U : Type 0} → Host R U → Host R U → (Script → ℕ → ℕ → LooperState → LooperState) → Pass → Pass → ViewRoot → ViewRoot → Type 0
ShowsOn host host' step pass pass' root root' = (lockstep : Bool) (s : Script) (q at : ℕ) → MayTell lockstep host.now at
    → StepsRoot lockstep s q (step s q at) (calls_of host.poster.now) pass root (calls_of host'.poster.now) pass' root'

-- the same of a step of a frame, whose moments pass the test
abbrev pub ShowsFrameOn : {R U : Type 0} → (ℕ → Bool) → Host R U → Host R U → (Script → ℕ → ℕ → LooperState → LooperState)
    → Pass → Pass → ViewRoot → ViewRoot → Type 0
ShowsFrameOn is_moment host host' step pass pass' root root' =
    (lockstep : Bool) (s : Script) (q at : ℕ) → MayTell lockstep host.now at → MayTellAll lockstep is_moment at
    → StepsRoot lockstep s q (step s q at) (calls_of host.poster.now) pass root (calls_of host'.poster.now) pass' root'

-- the frame of the latest pulse began, where it wouldn't have gone back, each phase ran callbacks of these identities, and the view root shows it
abbrev pub RootRuns : {R U : Type 0} → SharedFrames → (ℕ → Bool) → Pass → Pass → Host R U → Host R U → ViewRoot → ViewRoot → Type 0
RootRuns c is_moment pass pass' host host' root root' = (ids : Option (List (List ℕ)))
    × RanFrame c.constants.interval c.constants.phases is_moment pass pass' ids
    × EndsLatest pass pass'
    × ShowsFrameOn is_moment host host' (λ s q at. frame_ran s q at ids) pass pass' root root'

-- the animation of this gauge ran at this moment, where there is one of this number
abbrev pub animated : Script → ℕ → ℕ → ℕ → LooperState → LooperState
animated s q now gauge a = option_map_or (λ x. animation_ran s q now gauge x a) (slice_get a.gauges gauge) a

-- the gauges are those of the script, as this looper has them
abbrev pub HasGauges : Script → ℕ → ViewRoot → Type 0
HasGauges s q root = map gauge_fixed root.gauges.items ≡ map (fixed_by s q) s.gauges

-- it has painted its gauges too, as they stand
abbrev pub HasPainted : Script → ℕ → ViewRoot → ViewRoot → Type 0
HasPainted s q root root' = map paint_of root'.painted.items ≡ map paint_of root.painted.items ++ paints s q (map standing root.gauges.items)
