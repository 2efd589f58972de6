use Rattle.std.proofs.Common.{◌≡◌, ℕ, List, [], length}
use Rattle.dash_script.specs.declared.script.Script.{Script}
use Rattle.run_model.specs.Moments.{Mode}
use Rattle.dash_hall.specs.declared.hall.Hall.{Hall}
use Rattle.dash_hall.specs.declared.kit.Kit.{Kit}
use Rattle.dash_hall.specs.Kits.{AreUnseen}
use Rattle.dash_threads.specs.declared.thread.PostingThread.{PostingThread}
use Rattle.dash_stage.specs.Opening.{AreUnusedFrom}
use Rattle.dash_stage.specs.Sharing.{OfThreads, OfPasses, AreUnheard}
use Rattle.dash_stage.specs.Stages.{AreFirstThreads, HaveRunBy}
use Rattle.dash_stage.proofs.opening.threads.Given as goal

-- the first threads were made
pub record MadeThreads (s : Script) (hall : Hall) (n : ℕ) (kits : List Kit) (ts : List PostingThread) : Type 0 where
  pub kits_left : AreUnusedFrom s hall n kits
  pub count : length ts ≡ n
  pub first : AreFirstThreads s hall ts
  pub run : (m : Mode) → HaveRunBy m s [] ts
  pub unseen : OfThreads AreUnseen ts
  pub unheard : OfPasses AreUnheard ts

abbrev pub invariant-loop-number : goal.invariant-loop-number
invariant-loop-number l = MadeThreads l.script l.hall l.number l.kits.items l.threads.items
