use Rattle.std.proofs.Common.{◌≡◌}
use Rattle.dash_loopers.specs.Loopers.{LooperKeeps}
use Rattle.dash_hall.specs.Hearing.{HaveHeardAt}
use Rattle.dash_hall.proofs.Sharing.{FirstAre}
use Rattle.dash_stage.proofs.share.loopers_hear.Given as goal

abbrev pub invariant-loop-k : goal.invariant-loop-k
invariant-loop-k l = FirstAre (LooperKeeps (HaveHeardAt l.place l.initial.other.view.seen)) l.k l.initial.loopers l.loopers × (l.other ≡ l.initial.other)
