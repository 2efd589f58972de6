use Rattle.std.proofs.Common.{◌≡◌, ◌<◌, ℕ, false, slice_index_or}
use Rattle.dash_loopers.specs.declared.looper.StageLooper.{StageLooper}
use Rattle.dash_loopers.specs.Loopers.{is_given_up}
use Rattle.dash_stage.proofs.side.some_gave_up.Given as goal

abbrev pub invariant-loop-looper : goal.invariant-loop-looper
invariant-loop-looper l = (k : ℕ) (d : StageLooper) → k < l.looper-index → is_given_up (slice_index_or l.loopers k d).last ≡ false
