-- The looks for a message that a round makes, and what comes of each.
use Rattle.std.specs.Prelude.{◌≡◌, ℕ, suc, ◌<◌, ◌^◌, ◌⊎◌, Bool, true, false, List, [], ◌∷◌, length, Option}
use Rattle.atomic_table.specs.Seated.{TableId}
use Rattle.message_pool.specs.Passes.{Node, Claimed}
use Rattle.queue_state.specs.declared.answers.Nexted.{Nexted}
use Rattle.queue_state.specs.declared.answers.Nexted.TheVariants as nexted
use Rattle.queue_state.specs.Calls.{LooksAtHome}
use Rattle.shared_queue.specs.Known.{Shared, IsOf}
use Rattle.shared_queue.specs.Calls.{NextedBy}
use Rattle.looper_run.specs.declared.looper.Round.{Round}
use Rattle.looper_run.specs.declared.looper.Round.TheVariants as round
use Rattle.looper_run.specs.declared.step.Step.{Step}
use Rattle.looper_run.specs.declared.step.Step.TheVariants as step
use Rattle.looper_run.specs.Holding.{Sender, Holding, Looping}
use Rattle.looper_run.specs.Acts.{IsIdleAct, GrowsBy}
use Rattle.looper_run.specs.Asked.{Listening, TellsOf, any_heard}
use Rattle.looper_run.specs.Tests.{IsLent, Test, Passes}
use Rattle.looper_run.specs.Told.{Dispatches, GivesBack, AreRecycled}

-- the same, with a poster that has looked for a message
abbrev pub looked_by : Holding → Sender → Holding
looked_by h p = record { poster = p; pass = h.pass; journal = h.journal }

-- the same looper, with another poster
abbrev pub by_poster : Looping → Sender → Looping
by_poster l p = record { held = looked_by l.held p; idle_owed = l.idle_owed; ended = l.ended }

-- what a look hands out is of the pool
abbrev pub IsAnswerOf : TableId → Nexted Claimed TableId → Type 0
IsAnswerOf pool answer = LooksAtHome (λ (c : Claimed). c.home) pool answer

-- the looper's poster has just looked for a message and was answered so, and the test was true before
pub record HasAnswer (M : Test) (l : Looping) (answer : Nexted Claimed TableId) : Type 0 where
  pub queue : Shared TableId
  pub poster : Sender
  pub now : ℕ
  pub of : IsOf poster queue
  pub look : NextedBy poster l.held.poster now l.idle_owed answer
  pub passes : Passes M (looked_by l.held poster)

-- so it was at a queue whose messages are of this pool, which its pass is of, too
pub record IsAnswered (M : Test) (home : TableId) (l : Looping) (answer : Nexted Claimed TableId) : Type 0 where
  pub pool : l.held.pass.home ≡ home
  pub of_pool : IsAnswerOf home answer
  pub look : HasAnswer M l answer

-- a look took a message; it was dispatched, told and recycled, and an idle turn is owed again
pub record HasDispatched (now : ℕ) (before after : Looping) : Type 0 where
  pub looked : Sender
  pub number : ℕ
  pub moment : ℕ
  pub node : Node
  pub look : NextedBy before.held.poster looked now before.idle_owed (nexted.Taken number moment node)
  pub done : Dispatches (looked_by before.held looked) after.held node moment
  pub idle_owed : after.idle_owed ≡ true

-- a look found that the idle turn which was owed is to be used: idle handlers ran, and none is owed
pub record HasIdled (now : ℕ) (before after : Looping) : Type 0 where
  pub look : NextedBy before.held.poster after.held.poster now before.idle_owed nexted.Idle
  pub pass : after.held.pass ≡ before.held.pass
  pub looper : after.held.journal.looper ≡ before.held.journal.looper
  pub ran : GrowsBy IsIdleAct before.held.journal.acts after.held.journal.acts
  pub idle_owed : after.idle_owed ≡ false

-- a look answered that the looper is to wait, and that is all
pub record HasWaited (now : ℕ) (before after : Looping) (until : Option ℕ) : Type 0 where
  pub look : NextedBy before.held.poster after.held.poster now before.idle_owed (nexted.Wait until)
  pub pass : after.held.pass ≡ before.held.pass
  pub journal : after.held.journal ≡ before.held.journal
  pub idle_owed : after.idle_owed ≡ before.idle_owed

-- a look ended the queue, and all that was left was recycled, or it found the queue over
abbrev pub EndsBy : ℕ → Looping → Looping → Type 0
EndsBy now before after =
    ((left : List Node) × NextedBy before.held.poster after.held.poster now before.idle_owed (nexted.End left)
    × AreRecycled left before.held.pass after.held.pass)
    ⊎ (NextedBy before.held.poster after.held.poster now before.idle_owed nexted.Over × (after.held.pass ≡ before.held.pass))

pub record HasEnded (now : ℕ) (before after : Looping) : Type 0 where
  pub look : EndsBy now before after
  pub home : after.held.pass.home ≡ before.held.pass.home
  pub journal : after.held.journal ≡ before.held.journal
  pub idle_owed : after.idle_owed ≡ before.idle_owed

-- memory ran out after a look: for the dispatch of the message that it took, which was recycled, or for an idle handler
abbrev pub GivesUp : ℕ → Looping → Looping → Type 0
GivesUp now before after =
    ((looked : Sender) × (number : ℕ) × (moment : ℕ) × (node : Node)
    × NextedBy before.held.poster looked now before.idle_owed (nexted.Taken number moment node) × GivesBack (looked_by before.held looked) after.held node)
    ⊎ (NextedBy before.held.poster after.held.poster now before.idle_owed nexted.Idle × (after.held.pass ≡ before.held.pass)
    × GrowsBy IsIdleAct before.held.journal.acts after.held.journal.acts)

-- one look, and what came of it
abbrev pub StepBy : ℕ → Looping → Looping → Step → Type 0
StepBy now before after step.Dispatched = HasDispatched now before after × (length after.held.journal.acts < 2 ^ 64)
StepBy now before after step.Idled = HasIdled now before after
StepBy now before after (step.Waits until) = HasWaited now before after until
StepBy now before after step.Ends = HasEnded now before after
StepBy now before after step.NoMemory = GivesUp now before after

-- a step waits only where its look was answered so
abbrev pub WaitsAsTold : Nexted Claimed TableId → Step → Type 0
WaitsAsTold answer step.Dispatched = Unit {0}
WaitsAsTold answer step.Idled = Unit {0}
WaitsAsTold answer (step.Waits until) = answer ≡ nexted.Wait until
WaitsAsTold answer step.Ends = Unit {0}
WaitsAsTold answer step.NoMemory = Unit {0}

-- looks one after another, of which each dispatched a message or, where it is false, used the idle turn; the last stands first
abbrev pub Looked : ℕ → List Bool → Looping → Looping → Type 0
Looked now [] before after = after ≡ before
Looked now (true ∷ looks) before after = (between : Looping) × Looked now looks before between × HasDispatched now between after
Looked now (false ∷ looks) before after = (between : Looping) × Looked now looks before between × HasIdled now between after

-- how many of the looks dispatched a message
abbrev pub dispatching_looks : List Bool → ℕ
dispatching_looks [] = 0
dispatching_looks (true ∷ looks) = suc (dispatching_looks looks)
dispatching_looks (false ∷ looks) = dispatching_looks looks

-- so many messages were dispatched, with idle turns in between
abbrev pub LooksUntil : ℕ → Looping → ℕ → Looping → Type 0
LooksUntil now before count after = (looks : List Bool) × Looked now looks before after × (dispatching_looks looks ≡ count)

-- looks, to the last one that is answered so
abbrev pub DrainBy : ℕ → Looping → Looping → Round → Type 0
DrainBy now before after (round.Drained dispatched until) = (last : Looping) × LooksUntil now before dispatched last × HasWaited now last after until
DrainBy now before after (round.Ended dispatched) = (last : Looping) × LooksUntil now before dispatched last × HasEnded now last after
DrainBy now before after round.NoMemory = (last : Looping) × (dispatched : ℕ) × LooksUntil now before dispatched last × GivesUp now last after

-- the beginning of a round: the dispatcher had its pulse, and then listeners were told of events; this holds of what they were asked
pub record IsBegun (called : List Listening → Type 0) (before after : Looping) : Type 0 where
  -- what the dispatcher left
  pub left : Holding
  pub lent : IsLent before.held left
  pub poster : after.held.poster ≡ left.poster
  pub pass : after.held.pass ≡ left.pass
  pub looper : after.held.journal.looper ≡ left.journal.looper
  pub told : TellsOf called left.journal.acts after.held.journal.acts
  pub idle_owed : after.idle_owed ≡ before.idle_owed

-- a round: it began, and then it looked for messages, unless memory ran out before; unless memory ran out, this holds of what the listeners were asked
abbrev pub IsRound : (List Listening → Type 0) → ℕ → Looping → Looping → Round → Type 0
IsRound called now before after (round.Drained dispatched until) =
    (start : Looping) × IsBegun called before start × DrainBy now start after (round.Drained dispatched until)
IsRound called now before after (round.Ended dispatched) = (start : Looping) × IsBegun called before start × DrainBy now start after (round.Ended dispatched)
IsRound called now before after round.NoMemory = (start : Looping) × IsBegun any_heard before start × ((after ≡ start) ⊎ DrainBy now start after round.NoMemory)
