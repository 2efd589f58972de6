use Rattle.std.proofs.Common.{◌<◌, ◌≤◌, ℕ, length, take}
use Rattle.std.specs.Prelude.{slice_index_or}
use Rattle.dash_script.specs.declared.script.Block.{Block}
use Rattle.dash_script.specs.declared.script.Script.{Script}
use Rattle.dash_stage.specs.declared.stage.Stage.{Stage}
use Rattle.dash_stage.specs.Steps.{RestsAt, TimeLiesAhead, IsUnderWay}
use Rattle.dash_stage.proofs.stage.Stage.play.Given as goal

-- the stage rests at the first blocks, and the next one lies ahead
pub record HasPlayed (s : Script) (i : ℕ) (st : Stage) : Type 0 where
  pub way : IsUnderWay s st
  pub rests : RestsAt s (take i s.blocks) st
  pub later : (d : Block) → i < length s.blocks → st.time ≤ (slice_index_or s.blocks i d).time
  pub before : (d : Block) → i < length s.blocks → TimeLiesAhead s (take i s.blocks) (slice_index_or s.blocks i d).time st

abbrev pub invariant-loop-block : goal.invariant-loop-block
invariant-loop-block g l = HasPlayed l.script l.block-index l.self
