-- A looper and its dispatcher, carried over one call after another.
use Rattle.std.proofs.Common.{◌≡◌, ℕ, ◌∙◌, List, Option}
use Rattle.atomic_table.specs.Seated.{TableId}
use Rattle.loop_model.specs.declared.journal.Act.{Act}
use Rattle.loop_model.specs.declared.entry.Entry.{Entry}
use Rattle.shared_queue.specs.Known.{Shared}
use Rattle.looper_run.specs.Holding.{Holding, Looping, Workplace, IsAt}
use Rattle.looper_run.specs.Asked.{Asked}
use Rattle.looper_run.specs.Carried.{KeepsLooper}
use Rattle.looper_run.specs.Ready.{RestsBetween}
use Rattle.looper_run.specs.Loops.{IsStill}
use Rattle.looper_run.specs.Going.{MayGoOn, MayLoop}
use Rattle.looper_run.proofs.Keeping.{ready_again}
use Rattle.looper_run.proofs.Sleeping.{of_still}

-- the looper is at the same queue and the same pool
pub at_again : (q : Shared TableId) (pool : TableId) (a b : Holding) → IsStill a b → IsAt q pool a → IsAt q pool b
at_again q pool a b still at = record { poster = of_still q a b still at.poster; pass = still.home ∙ at.pass; home = at.home }

module _ {D : Type 0} {O : Type 0} (Works : D → Workplace → Type 0) (source : D → O) (count : D → ℕ) (told : D → Option (List Asked)) (Stands : Holding → Holding → Type 0)
    (Awaiting : D → Option ℕ → Type 0) (Passing : D → ℕ → List Entry → List Act → Type 0) (d e : D) (q : Shared TableId) (pool : TableId) (a b : Looping) (still : IsStill a.held b.held) where
  -- a looper that might go on, and rests, may go on
  pub may_again : MayGoOn Works Awaiting Passing d q pool a → KeepsLooper Works source count told Stands d e a.held b.held → RestsBetween Awaiting Passing e b.held → b.ended ≡ a.ended → MayGoOn Works Awaiting Passing e q pool b
  may_again may keeps rests ended = record {
    looper = record { going = ended ∙ may.looper.going; at = at_again q pool a.held b.held still may.looper.at };
    ready = ready_again Works source count told Stands Awaiting Passing d e a.held b.held still may.ready.serves keeps rests;
  }

  pub loops_again : MayLoop Works Awaiting Passing d q pool a → KeepsLooper Works source count told Stands d e a.held b.held → RestsBetween Awaiting Passing e b.held → b.ended ≡ a.ended → MayLoop Works Awaiting Passing e q pool b
  loops_again may keeps rests ended = record { on = may_again may.on keeps rests ended; free = may.free }
