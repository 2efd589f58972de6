use Rattle.std.proofs.Common.{◌≡◌, ◌<◌, ℕ, true, slice_index_or}
use Rattle.looper_run.specs.Round.{is_ended}
use Rattle.dash_loopers.specs.declared.looper.StageLooper.{StageLooper}
use Rattle.dash_stage.proofs.free.all_but_main_have_ended.Given as goal

-- those below have ended
abbrev pub invariant-loop-place : goal.invariant-loop-place
invariant-loop-place l = (k : ℕ) (d : StageLooper) → 0 < k → k < l.place → is_ended (slice_index_or l.loopers k d).last ≡ true
