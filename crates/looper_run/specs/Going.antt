-- What stands before and behind a part of a looper's run.
use Rattle.std.specs.Prelude.{◌≡◌, ℕ, Bool, false, List, Option, None}
use Rattle.atomic_table.specs.Seated.{TableId}
use Rattle.loop_model.specs.declared.journal.Act.{Act}
use Rattle.loop_model.specs.declared.entry.Entry.{Entry}
use Rattle.message_pool.specs.Passes.{Claimed, Node}
use Rattle.message_pool.specs.Obtain.{IsNodeOf}
use Rattle.queue_state.specs.declared.answers.Nexted.{Nexted}
use Rattle.shared_queue.specs.Known.{Shared}
use Rattle.looper_run.specs.Holding.{Holding, Looping, Workplace, workplace}
use Rattle.looper_run.specs.Asked.{Asked}
use Rattle.looper_run.specs.Carried.{KeepsLooper}
use Rattle.looper_run.specs.Ready.{RestsBetween, ServesBetween, MayRun, HasToDispatch}
use Rattle.looper_run.specs.Looks.{IsAnswered}

-- no round has ended the looper, which is at this queue and this pool, and its dispatcher serves both and rests between two dispatches
pub record MayGoOn {D : Type 0} (Works : D → Workplace → Type 0) (Awaiting : D → Option ℕ → Type 0) (Passing : D → ℕ → List Entry → List Act → Type 0)
    (d : D) (queue : Shared TableId) (pool : TableId) (l : Looping) : Type 0 where
  pub looper : MayRun queue pool l
  pub ready : ServesBetween Works Awaiting Passing d l.held

-- the same of a queue that goes by a clock
pub record MayLoop {D : Type 0} (Works : D → Workplace → Type 0) (Awaiting : D → Option ℕ → Type 0) (Passing : D → ℕ → List Entry → List Act → Type 0)
    (d : D) (queue : Shared TableId) (pool : TableId) (l : Looping) : Type 0 where
  pub on : MayGoOn Works Awaiting Passing d queue pool l
  pub free : queue.constants.setting.lockstep ≡ false

-- the looper's poster has just looked for a message and was answered so, and its dispatcher, which serves it, awaits none
pub record MayAct {D : Type 0} (Works : D → Workplace → Type 0) (Awaiting : D → Option ℕ → Type 0) (Passing : D → ℕ → List Entry → List Act → Type 0)
    (d : D) (pool : TableId) (l : Looping) (answer : Nexted Claimed TableId) : Type 0 where
  pub serves : Works d (workplace l.held)
  pub awaits : Awaiting d None
  pub answered : IsAnswered (Passing d) pool l answer

-- the looper took this message last, which is of this pool as its pass is, and its dispatcher, which serves it, awaits none
pub record TookOfPool {D : Type 0} (Works : D → Workplace → Type 0) (Awaiting : D → Option ℕ → Type 0) (Passing : D → ℕ → List Entry → List Act → Type 0)
    (d : D) (pool : TableId) (h : Holding) (n : ℕ) (m : Node) (now : ℕ) : Type 0 where
  pub ready : HasToDispatch Works Awaiting Passing d h n m now
  pub pass : h.pass.home ≡ pool
  pub node : IsNodeOf pool m

-- a part of a looper's run: what is kept is kept, unless memory ran out the dispatcher rests between two dispatches, and so the looper is over or not
pub record GoesThrough {D : Type 0} {O : Type 0} (Works : D → Workplace → Type 0) (source : D → O) (count : D → ℕ) (told : D → Option (List Asked))
    (Awaiting : D → Option ℕ → Type 0) (Passing : D → ℕ → List Entry → List Act → Type 0) (Stands : Holding → Holding → Type 0)
    (unless : Type 0 → Type 0) (before after : D) (l l' : Looping) (over : Bool) : Type 0 where
  pub keeps : KeepsLooper Works source count told Stands before after l.held l'.held
  pub rests : unless (RestsBetween Awaiting Passing after l'.held)
  pub ended : l'.ended ≡ over
