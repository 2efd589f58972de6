use Rattle.std.proofs.Common.{◌≡◌, ℕ, Option, Some}
use Rattle.dash_script.specs.declared.script.Script.{Script}
use Rattle.dash_stage.specs.declared.stage.Stage.{Stage}
use Rattle.dash_stage.specs.Steps.{OnlyLooked}
use Rattle.dash_stage.specs.Timeliness.{NotLater}
use Rattle.dash_stage.proofs.Stages.StageWhole.{OneWaits, WaitAfter}
use Rattle.dash_stage.proofs.Moves.{HaveLooked}
use Rattle.dash_stage.proofs.stage.Stage.next_due.Given as goal

-- this is the least time of the first loopers
pub record FoundDue (s : Script) (n : ℕ) (first now : Stage) (next : Option ℕ) : Type 0 where
  pub looked : OnlyLooked s first now
  pub early : (t : ℕ) → NotLater t next → WaitAfter t n first.loopers.items
  pub reason : (t : ℕ) → next ≡ Some t → OneWaits s t first.loopers.items
  pub looks : HaveLooked n first.loopers.items first.controller now.controller next

abbrev pub invariant-loop-looper : goal.invariant-loop-looper
invariant-loop-looper g l = FoundDue l.script l.looper l.initial.self l.self l.next
