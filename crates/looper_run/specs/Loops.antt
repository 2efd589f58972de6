-- What a loop by a clock does: it sleeps until a look finds something, and goes on until its queue is over, its cap has come, or the bell was rung.
use Rattle.std.specs.Prelude.{◌≡◌, ℕ, zero, suc, ◌≤◌, ◌⊎◌, Bool, true, false, List, [], ◌∷◌, ◌++◌, Option, Some, None}
use Rattle.atomic_table.specs.Seated.{TableId}
use Rattle.loop_io.specs.Moments.{IsMoment}
use Rattle.loop_model.specs.declared.journal.Act.{Act}
use Rattle.loop_model.specs.declared.call.Call.{Call}
use Rattle.loop_model.specs.declared.call.Call.TheVariants.{Next}
use Rattle.loop_model.specs.declared.entry.Entry.{Entry}
use Rattle.loop_model.specs.Answers.{Setting}
use Rattle.loop_model.specs.Dispatches.{dispatches}
use Rattle.message_pool.specs.Passes.{Claimed, Node}
use Rattle.queue_state.specs.declared.answers.Nexted.{Nexted}
use Rattle.queue_state.specs.declared.answers.Nexted.TheVariants as nexted
use Rattle.shared_queue.specs.declared.waiting.Waited.{Waited}
use Rattle.shared_queue.specs.declared.waiting.Waited.TheVariants as waited
use Rattle.shared_queue.specs.Waiting.{IsCap, HasLooked, HasNudged, Slept, LastLookBy, WaitedBy, WaitsAtHome}
use Rattle.looper_run.specs.declared.by_clock.Loop.{Loop}
use Rattle.looper_run.specs.declared.by_clock.Loop.TheVariants as loop
use Rattle.looper_run.specs.declared.by_clock.Pace.{Pace}
use Rattle.looper_run.specs.declared.by_clock.Pace.TheVariants as pace
use Rattle.looper_run.specs.declared.by_clock.Pause.{Pause}
use Rattle.looper_run.specs.declared.by_clock.Pause.TheVariants as pause
use Rattle.looper_run.specs.declared.step.Step.{Step}
use Rattle.looper_run.specs.declared.step.Step.TheVariants as step
use Rattle.looper_run.specs.Holding.{Sender, Holding, Looping}
use Rattle.looper_run.specs.Acts.{taken_messages, moment_on}
use Rattle.looper_run.specs.Asked.{Listening, TellsOf, any_heard}
use Rattle.looper_run.specs.Looks.{by_poster, StepBy, IsBegun, IsAnswerOf}

-- the same looper on the same queue and pool, which has the turns that it had and more; it may have heard the bell
pub record IsStill (before after : Holding) : Type 0 where
  pub table : after.poster.table ≡ before.poster.table
  pub sender : after.poster.sender ≡ before.poster.sender
  pub constants : after.poster.view.constants ≡ before.poster.view.constants
  pub turns : before.poster.view.turns ≤ after.poster.view.turns
  pub home : after.pass.home ≡ before.pass.home
  pub looper : after.journal.looper ≡ before.journal.looper

-- a look is made at the moment that it has after these entries by naming a moment of the clock
abbrev pub IsLookBy : (ℕ → Bool) → ℕ → Setting → List Entry → Call → Type 0
IsLookBy shows start s past (Next at) = (now : ℕ) × IsMoment shows start now × (at ≡ moment_on s past now)
IsLookBy shows start s past _ = Unit {0}

-- after the past, each look of the sender is such
abbrev pub AreLooksBy : (ℕ → Bool) → ℕ → Setting → ℕ → List Entry → List Entry → Type 0
AreLooksBy shows start s sender past [] = Unit {0}
AreLooksBy shows start s sender past (e ∷ more) =
    (e.sender ≡ sender → IsLookBy shows start s past e.call) × AreLooksBy shows start s sender (past ++ e ∷ []) more

-- a part of a loop: its Dispatch acts are, one for one and in order, the messages that the looper took, with the same numbers and moments
pub record IsLoopPart (shows : ℕ → Bool) (start : ℕ) (s : Setting) (before after : Holding) : Type 0 where
  pub still : IsStill before after
  pub more : List Entry
  pub did : List Act
  pub seen : after.poster.view.seen ≡ before.poster.view.seen ++ more
  pub acts : after.journal.acts ≡ before.journal.acts ++ did
  pub told : dispatches did ≡ taken_messages before.poster.sender more
  pub looks : AreLooksBy shows start s before.poster.sender before.poster.view.seen more

-- looks before the cap that were answered to wait, one after another, and that is all
abbrev pub HasWaitedLong : (ℕ → Bool) → ℕ → Option ℕ → Looping → Looping → Type 0
HasWaitedLong shows start cap before after =
    (p : Sender) × (n : ℕ) × Slept shows start before.idle_owed cap n before.held.poster p × (after ≡ by_poster before p)

-- the looper slept, and then a look at a moment of the clock was answered, and this came of it
abbrev pub HasStepped : (ℕ → Bool) → ℕ → Option ℕ → Looping → Looping → Step → Type 0
HasStepped shows start cap before after r =
    (slept : Looping) × HasWaitedLong shows start cap before slept × (now : ℕ) × IsMoment shows start now × StepBy now slept after r

-- the looper slept, and then a look was answered to wait at the cap, or before the cap, and the bell was another behind it
abbrev pub HasPaused : (ℕ → Bool) → ℕ → Option ℕ → Looping → Looping → Pause → Type 0
HasPaused shows start cap before after (pause.Cap now) =
    (slept : Looping) × HasWaitedLong shows start cap before slept × (p : Sender) × (until : Option ℕ)
    × HasLooked shows start before.idle_owed now (nexted.Wait until) slept.held.poster p × IsCap cap now × (after ≡ by_poster slept p)
HasPaused shows start cap before after pause.Nudged =
    (slept : Looping) × HasWaitedLong shows start cap before slept × (p : Sender) × HasNudged shows start before.idle_owed cap slept.held.poster p
    × (after ≡ by_poster slept p)

-- after this step of a looper that waits by a clock it looks again; its last look is never answered to wait
abbrev pub LooksAgain : Step → Type 0
LooksAgain step.Dispatched = Unit {0}
LooksAgain step.Idled = Unit {0}
LooksAgain (step.Waits until) = ⊥
LooksAgain step.Ends = ⊥
LooksAgain step.NoMemory = ⊥

-- what a step comes to
abbrev pub pace_of : Step → Pace
pace_of step.Dispatched = pace.Goes
pace_of step.Idled = pace.Goes
pace_of (step.Waits until) = pace.Goes
pace_of step.Ends = pace.Ends
pace_of step.NoMemory = pace.NoMemory

-- what came of a wait: a step, or a pause
abbrev pub HasPaced : (ℕ → Bool) → ℕ → Option ℕ → Looping → Looping → Pace → Type 0
HasPaced shows start cap before after pace.Goes = (r : Step) × LooksAgain r × HasStepped shows start cap before after r
HasPaced shows start cap before after pace.Ends = HasStepped shows start cap before after step.Ends
HasPaced shows start cap before after pace.NoMemory = HasStepped shows start cap before after step.NoMemory
HasPaced shows start cap before after (pace.Pauses p) = HasPaused shows start cap before after p

-- what holds unless memory ran out
abbrev pub UnlessHalted : Pace → Type 0 → Type 0
UnlessHalted pace.Goes P = P
UnlessHalted pace.Ends P = P
UnlessHalted pace.NoMemory P = Unit {0}
UnlessHalted (pace.Pauses p) P = P

-- so many steps, one after another
abbrev pub Stepped : (ℕ → Bool) → ℕ → Option ℕ → ℕ → Looping → Looping → Type 0
Stepped shows start cap zero before after = after ≡ before
Stepped shows start cap (suc n) before after =
    (between : Looping) × Stepped shows start cap n before between × (r : Step) × LooksAgain r × HasStepped shows start cap between after r

-- listeners were told of events, of which this holds, and that is all
pub record IsClosed (called : List Listening → Type 0) (before after : Looping) : Type 0 where
  pub poster : after.held.poster ≡ before.held.poster
  pub pass : after.held.pass ≡ before.held.pass
  pub looper : after.held.journal.looper ≡ before.held.journal.looper
  pub told : TellsOf called before.held.journal.acts after.held.journal.acts
  pub idle_owed : after.idle_owed ≡ before.idle_owed

-- steps, to the last one, by the answer; where a pause ended them, listeners were told of events behind it
abbrev pub StepsUntil : (List Listening → Type 0) → (ℕ → Bool) → ℕ → Option ℕ → Looping → Looping → Loop → Type 0
StepsUntil called shows start cap before after loop.Ended =
    (n : ℕ) × (last : Looping) × Stepped shows start cap n before last × HasStepped shows start cap last after step.Ends × called []
StepsUntil called shows start cap before after (loop.Cap now) =
    (n : ℕ) × (last : Looping) × (paused : Looping) × Stepped shows start cap n before last × HasPaused shows start cap last paused (pause.Cap now)
    × IsClosed called paused after
StepsUntil called shows start cap before after loop.Nudged =
    (n : ℕ) × (last : Looping) × (paused : Looping) × Stepped shows start cap n before last × HasPaused shows start cap last paused pause.Nudged
    × IsClosed called paused after
StepsUntil called shows start cap before after loop.NoMemory =
    (n : ℕ) × (last : Looping) × Stepped shows start cap n before last
    × (HasStepped shows start cap last after step.NoMemory
    ⊎ ((paused : Looping) × (p : Pause) × HasPaused shows start cap last paused p × IsClosed any_heard paused after))

-- a loop: the dispatcher had its pulse at a moment of the clock, listeners were told of events, and then the looper went on, unless memory ran out before;
-- unless memory ran out, this holds of that moment and of what the listeners were asked at the start and at the end
abbrev pub IsLoop : (ℕ → List Listening → List Listening → Type 0) → (ℕ → Bool) → ℕ → Option ℕ → Looping → Looping → Loop → Type 0
IsLoop called shows start cap before after loop.NoMemory =
    (begun : Looping) × IsBegun any_heard before begun × ((after ≡ begun) ⊎ StepsUntil any_heard shows start cap begun after loop.NoMemory)
IsLoop called shows start cap before after loop.Ended =
    (now : ℕ) × IsMoment shows start now × (heard : List Listening) × (begun : Looping) × IsBegun (λ h. h ≡ heard) before begun
    × StepsUntil (called now heard) shows start cap begun after loop.Ended
IsLoop called shows start cap before after (loop.Cap at) =
    (now : ℕ) × IsMoment shows start now × (heard : List Listening) × (begun : Looping) × IsBegun (λ h. h ≡ heard) before begun
    × StepsUntil (called now heard) shows start cap begun after (loop.Cap at)
IsLoop called shows start cap before after loop.Nudged =
    (now : ℕ) × IsMoment shows start now × (heard : List Listening) × (begun : Looping) × IsBegun (λ h. h ≡ heard) before begun
    × StepsUntil (called now heard) shows start cap begun after loop.Nudged

-- the looper's last wait, begun since then with the bell as it was, was answered so
abbrev pub LastWait : (ℕ → Bool) → ℕ → Option ℕ → Sender → Sender → Waited Claimed TableId → Type 0
LastWait shows start cap before after answer =
    (p : Sender) × (idle : Bool) × (before.view.turns ≤ p.view.turns) × (p.view.heard ≡ before.view.heard) × WaitedBy shows start idle cap p after answer

-- a loop, by its answer: what it did, and the wait that it ended with
abbrev pub LoopBy : (ℕ → Bool) → ℕ → Option ℕ → Setting → Holding → Holding → Loop → Type 0
LoopBy shows start cap s before after loop.Ended =
    IsLoopPart shows start s before after
    × (((left : List Node) × LastWait shows start cap before.poster after.poster (waited.End left))
    ⊎ LastWait shows start cap before.poster after.poster waited.Over)
LoopBy shows start cap s before after (loop.Cap now) =
    IsLoopPart shows start s before after × LastWait shows start cap before.poster after.poster (waited.Cap now)
LoopBy shows start cap s before after loop.Nudged = IsLoopPart shows start s before after × LastWait shows start cap before.poster after.poster waited.Nudged
LoopBy shows start cap s before after loop.NoMemory = Unit {0}

-- the answer of a loop that is to pause
abbrev pub loop_of : Pause → Loop
loop_of (pause.Cap now) = loop.Cap now
loop_of pause.Nudged = loop.Nudged

-- a loop that ended the looper
abbrev pub has_ended_looper : Loop → Bool
has_ended_looper loop.Ended = true
has_ended_looper (loop.Cap now) = false
has_ended_looper loop.Nudged = false
has_ended_looper loop.NoMemory = false

-- what holds unless memory ran out
abbrev pub UnlessLost : Loop → Type 0 → Type 0
UnlessLost loop.Ended P = P
UnlessLost (loop.Cap now) P = P
UnlessLost loop.Nudged P = P
UnlessLost loop.NoMemory P = Unit {0}

-- a loop that was left after so many steps, or one that ended by its answer
abbrev pub LoopsOrGoes : (ℕ → Bool) → ℕ → Option ℕ → Setting → Holding → Holding → Option Loop → Type 0
LoopsOrGoes shows start cap s before after None = IsLoopPart shows start s before after
LoopsOrGoes shows start cap s before after (Some r) = LoopBy shows start cap s before after r

-- there is a bound, and this holds of it
abbrev pub HasBound : Option ℕ → (ℕ → Type 0) → Type 0
HasBound None P = ⊥
HasBound (Some most) P = P most

abbrev pub StepsOrGoes : (List Listening → Type 0) → (ℕ → Bool) → ℕ → Option ℕ → Option ℕ → Looping → Looping → Option Loop → Type 0
StepsOrGoes called shows start cap most before after None = HasBound most (λ n. Stepped shows start cap n before after × called [])
StepsOrGoes called shows start cap most before after (Some r) = StepsUntil called shows start cap before after r

abbrev pub IsLoopOrGoes : (ℕ → List Listening → List Listening → Type 0) → (ℕ → Bool) → ℕ → Option ℕ → Option ℕ → Looping → Looping → Option Loop → Type 0
IsLoopOrGoes called shows start cap most before after None = HasBound most (λ n.
    (now : ℕ) × IsMoment shows start now × (heard : List Listening) × (begun : Looping) × IsBegun (λ h. h ≡ heard) before begun
    × Stepped shows start cap n begun after × called now heard [])
IsLoopOrGoes called shows start cap most before after (Some r) = IsLoop called shows start cap before after r

-- no step is left of a bound
abbrev pub is_spent : Option ℕ → Bool
is_spent None = false
is_spent (Some zero) = true
is_spent (Some (suc n)) = false

-- a bound less one step
abbrev pub one_less : Option ℕ → Option ℕ
one_less None = None
one_less (Some zero) = Some zero
one_less (Some (suc n)) = Some n

-- such a loop ended the looper
abbrev pub is_over_then : Option Loop → Bool
is_over_then None = false
is_over_then (Some r) = has_ended_looper r

-- what holds unless memory ran out in it
abbrev pub UnlessLostThen : Option Loop → Type 0 → Type 0
UnlessLostThen None P = P
UnlessLostThen (Some r) P = UnlessLost r P

-- an answer of a wait that is one of a look, as the look's
abbrev pub IsLookAnswer : Waited Claimed TableId → Nexted Claimed TableId → Type 0
IsLookAnswer waiting answer =
    (shows : ℕ → Bool) (start : ℕ) (idle : Bool) (cap : Option ℕ) (p q : Sender) → LastLookBy shows start idle cap p q waiting → (now : ℕ)
    × HasLooked shows start idle now answer p q

-- an answer that is none of waiting
abbrev pub IsNoWait : Nexted Claimed TableId → Type 0
IsNoWait (nexted.Taken number at node) = Unit {0}
IsNoWait nexted.Idle = Unit {0}
IsNoWait (nexted.Wait until) = ⊥
IsNoWait (nexted.End left) = Unit {0}
IsNoWait nexted.Over = Unit {0}

-- what a looper acts on behind a wait
pub record AnswersWait (waiting : Waited Claimed TableId) (answer : Nexted Claimed TableId) : Type 0 where
  pub answers : IsLookAnswer waiting answer
  pub no_wait : IsNoWait answer
  pub home : (pool : TableId) → WaitsAtHome (λ (c : Claimed). c.home) pool waiting → IsAnswerOf pool answer

-- any other as a pause
abbrev pub Pauses : Waited Claimed TableId → Pause → Type 0
Pauses (waited.Cap at) (pause.Cap now) = now ≡ at
Pauses waited.Nudged pause.Nudged = Unit {0}
Pauses _ _ = ⊥
