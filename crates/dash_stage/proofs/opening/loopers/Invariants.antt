use Rattle.std.proofs.Common.{◌≡◌, ◌+◌, ℕ, List, length}
use Rattle.dash_script.specs.declared.script.Script.{Script}
use Rattle.dash_hall.specs.declared.hall.Hall.{Hall}
use Rattle.dash_hall.specs.declared.kit.Kit.{Kit}
use Rattle.dash_hall.specs.Kits.{AreUnseen}
use Rattle.dash_loopers.specs.declared.looper.StageLooper.{StageLooper}
use Rattle.dash_stage.specs.Opening.{AreUnusedFrom}
use Rattle.dash_stage.specs.Playing.{HaveBegun}
use Rattle.dash_stage.specs.Sharing.{OfLoopers, HaveHeardNothing}
use Rattle.dash_stage.specs.Stages.{AreFirstLoopers}
use Rattle.dash_stage.specs.Timeliness.{WaitForNothing}
use Rattle.dash_stage.proofs.opening.loopers.Given as goal

-- the first loopers were made
pub record MadeLoopers (s : Script) (hall : Hall) (n : ℕ) (kits : List Kit) (ls : List StageLooper) : Type 0 where
  pub kits_left : AreUnusedFrom s hall (s.threads + n) kits
  pub count : length ls ≡ n
  pub first : AreFirstLoopers s hall ls
  pub unseen : OfLoopers AreUnseen ls
  pub waits : WaitForNothing ls
  pub begun : HaveBegun s ls
  pub unheard : HaveHeardNothing ls

abbrev pub invariant-loop-number : goal.invariant-loop-number
invariant-loop-number l = MadeLoopers l.script l.hall l.number l.kits.items l.loopers.items
