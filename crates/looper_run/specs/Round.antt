-- What a round of a looper does, and each of its steps.
use Rattle.std.specs.Prelude.{◌≡◌, ℕ, ◌≤◌, ◌⊎◌, Bool, true, false, List, ◌++◌, length}
use Rattle.atomic_table.specs.Seated.{TableId}
use Rattle.loop_model.specs.declared.journal.Act.{Act}
use Rattle.loop_model.specs.declared.entry.Entry.{Entry}
use Rattle.loop_model.specs.Answers.{Setting}
use Rattle.message_pool.specs.Passes.{Claimed, Node}
use Rattle.queue_state.specs.declared.answers.Nexted.{Nexted}
use Rattle.queue_state.specs.declared.answers.Nexted.TheVariants as nexted
use Rattle.shared_queue.specs.Calls.{NextedBy}
use Rattle.looper_run.specs.declared.looper.Round.{Round}
use Rattle.looper_run.specs.declared.looper.Round.TheVariants as round
use Rattle.looper_run.specs.declared.step.Step.{Step}
use Rattle.looper_run.specs.declared.step.Step.TheVariants as step
use Rattle.looper_run.specs.Holding.{Sender, Holding}
use Rattle.looper_run.specs.Acts.{taken_messages, AreLooksAt}
use Rattle.loop_model.specs.Dispatches.{dispatches}
use Rattle.looper_run.specs.Tests.{IsSameLooper}

-- a part of a round that names this moment and dispatches so many messages: its Dispatch acts are, one for one and in order, the messages that the looper took,
-- with the same numbers and moments
pub record Works (s : Setting) (now : ℕ) (before after : Holding) (count : ℕ) : Type 0 where
  pub same : IsSameLooper before after
  pub more : List Entry
  pub did : List Act
  pub seen : after.poster.view.seen ≡ before.poster.view.seen ++ more
  pub acts : after.journal.acts ≡ before.journal.acts ++ did
  pub told : dispatches did ≡ taken_messages before.poster.sender more
  pub count_is : length (dispatches did) ≡ count
  pub looks : AreLooksAt s before.poster.sender now before.poster.view.seen more

-- the poster's last turn, taken since then, was a look that was answered so
abbrev pub LastLook : ℕ → Sender → Sender → Nexted Claimed TableId → Type 0
LastLook now before after answer = (p : Sender) × (idle_owed : Bool) × (before.view.turns ≤ p.view.turns) × NextedBy p after now idle_owed answer

-- that look found the queue over, or ended it
abbrev pub LastLookEnds : ℕ → Sender → Sender → Type 0
LastLookEnds now before after = ((left : List Node) × LastLook now before after (nexted.End left)) ⊎ LastLook now before after nexted.Over

-- a round, by its answer: what it did, and the look that it ended with
abbrev pub RoundBy : Setting → ℕ → Holding → Holding → Round → Type 0
RoundBy s now before after (round.Drained dispatched until) = Works s now before after dispatched × LastLook now before.poster after.poster (nexted.Wait until)
RoundBy s now before after (round.Ended dispatched) = Works s now before after dispatched × LastLookEnds now before.poster after.poster
RoundBy s now before after round.NoMemory = Unit {0}

-- a round that ended the looper
abbrev pub is_ended : Round → Bool
is_ended (round.Drained dispatched until) = false
is_ended (round.Ended dispatched) = true
is_ended round.NoMemory = false

-- what holds unless memory ran out
abbrev pub UnlessWanting : Round → Type 0 → Type 0
UnlessWanting (round.Drained dispatched until) P = P
UnlessWanting (round.Ended dispatched) P = P
UnlessWanting round.NoMemory P = Unit {0}

-- what holds unless memory ran out
abbrev pub UnlessStopped : Step → Type 0 → Type 0
UnlessStopped step.Dispatched P = P
UnlessStopped step.Idled P = P
UnlessStopped (step.Waits until) P = P
UnlessStopped step.Ends P = P
UnlessStopped step.NoMemory P = Unit {0}
