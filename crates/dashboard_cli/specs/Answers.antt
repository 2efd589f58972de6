-- What the statuses of the top call say of the words, the source and the sink.
use Rattle.std.specs.Prelude.{◌≡◌, ◌⊎◌, ℕ, ◌+◌, ◌≤◌, List, [], Bool, true, false, Option, Some, None, length}
use Rattle.std.specs.Io.KnownBytes.{Appends, Consumes, Keeps}
use Rattle.loop_io.specs.Causes.{one_more, AppendsFront, Rose}
use Rattle.dashboard_cli.specs.Works.{ToldBytes, ReadsWhole, Input, Work}
use Rattle.dashboard_cli.specs.Words.{IsAsked, work, work_by}
use Rattle.dashboard_cli.specs.declared.making.Returned.{Returned}
use Rattle.dashboard_cli.specs.declared.status.Status.{Status}
use Rattle.dashboard_cli.specs.declared.status.Status.TheVariants.{Ok, Script, ReadFault, WriteFault, NoMemory, Trace}
use Rattle.dashboard_cli.specs.declared.top_call.Outcome.{Outcome}
use Rattle.dashboard_cli.specs.declared.words.Subcommand.{Subcommand}

-- what an outcome returns beside its status
abbrev pub returned : Outcome → Returned
returned outcome = record { report = outcome.report; frames = outcome.frames; inbox = outcome.inbox }

-- the words are a command of which this holds; and it holds of the command that the words are, if they are one
pub record IsCommandWith (words : List (List ℕ)) (P : Subcommand → Type 0) : Type 0 where
  pub command : Subcommand
  pub asked : IsAsked words command
  pub holds : P command

abbrev pub AllOf : List (List ℕ) → (Subcommand → Type 0) → Type 0
AllOf words P = (command : Subcommand) → IsAsked words command → P command

-- this text and what is returned were made of the whole input of a command that reads so many bytes at most; of nothing for one that does not read
abbrev pub HasInput : Option ℕ → ToldBytes → ToldBytes → List ℕ → Type 0
HasInput (Some most) before after input = ReadsWhole most before after input
HasInput None before after input = Keeps before after × (input ≡ [])

pub record MakesOf (work : Work) (before after : ToldBytes) (out : List ℕ) (given : Returned) : Type 0 where
  pub input : List ℕ
  pub read : HasInput work.reads.most before after input
  pub made : work.Makes input out given

-- the text is made whole, and written so: whole, or a front of it
pub record WritesText (Grows : ToldBytes → ToldBytes → List ℕ → Type 0) (work : Work) (before after held holds : ToldBytes) (given : Returned) : Type 0 where
  pub out : List ℕ
  pub made : MakesOf work before after out given
  pub written : Grows held holds out

-- at Ok the words are a command whose text is written whole, by the numbers that the clock shows; at WriteFault they are one of whose text a front is written
abbrev pub WritesWholeAtOk : (ℕ → Bool) → List (List ℕ) → ToldBytes → ToldBytes → ToldBytes → ToldBytes → Outcome → Type 0
WritesWholeAtOk shows words before after held holds outcome =
    outcome.status ≡ Ok → IsCommandWith words (λ command. WritesText Appends (work_by shows command) before after held holds (returned outcome))

abbrev pub WritesFrontAtFault : (ℕ → Bool) → List (List ℕ) → ToldBytes → ToldBytes → ToldBytes → ToldBytes → Outcome → Type 0
WritesFrontAtFault shows words before after held holds outcome =
    outcome.status ≡ WriteFault → IsCommandWith words (λ command. WritesText AppendsFront (work_by shows command) before after held holds (returned outcome))

-- the whole input is refused with this status, and it is none that is taken
pub record IsRefused (wanted : Input) (before after : ToldBytes) (status : Status) : Type 0 where
  pub input : List ℕ
  pub read : HasInput wanted.most before after input
  pub bad : wanted.Refuses input status
  pub not_taken : wanted.Takes input → ⊥

-- the command reads, and one byte more was read than its input may have; or no more bytes were read than it may have
abbrev pub IsTooLong : Option ℕ → ToldBytes → ToldBytes → Type 0
IsTooLong (Some most) before after = (input : List ℕ) × Consumes before after input × (length input ≡ most + 1)
IsTooLong None before after = ⊥

abbrev pub ReadsAtMost : Option ℕ → ToldBytes → ToldBytes → Type 0
ReadsAtMost (Some most) before after = (input : List ℕ) × Consumes before after input × (length input ≤ most)
ReadsAtMost None before after = Keeps before after

-- the source tells that this is its input, which is short enough; for a command that reads nothing it is empty; and it is one that is taken
abbrev pub TellsInput : Option ℕ → ToldBytes → List ℕ → Type 0
TellsInput (Some most) before input = (before ≡ Some input) × (length input ≤ most)
TellsInput None before input = input ≡ []

pub record HasGoodInput (wanted : Input) (before : ToldBytes) : Type 0 where
  pub input : List ℕ
  pub told : TellsInput wanted.most before input
  pub good : wanted.Takes input

-- where the words are a command whose input is good, and the source counts no fault, the status is Ok, or there was no memory
abbrev pub Completes : List (List ℕ) → ToldBytes → ℕ → ℕ → Status → Type 0
Completes words before counted now status =
    IsCommandWith words (λ command. HasGoodInput (work command).reads before) → (Rose counted now → ⊥) → (status ≡ Ok) ⊎ (status ≡ NoMemory)

-- at this status nothing was written; and this status names a bad line of the input
abbrev pub writes_nothing : Status → Bool
writes_nothing Ok = false
writes_nothing WriteFault = false
writes_nothing status = true

abbrev pub is_refusal : Status → Bool
is_refusal (Script line cause) = true
is_refusal (Trace line) = true
is_refusal status = false

-- where the status tells that the source failed, or the sink, that one counted one fault in this call, and else none
abbrev pub CountsReads : Status → ℕ → ℕ → Type 0
CountsReads ReadFault before now = now ≡ one_more before
CountsReads status before now = now ≡ before

abbrev pub CountsWrites : Status → ℕ → ℕ → Type 0
CountsWrites WriteFault before now = now ≡ one_more before
CountsWrites status before now = now ≡ before
