use Rattle.std.proofs.Common.{◌≡◌}
use Rattle.dash_threads.specs.Threads.{ThreadKeeps}
use Rattle.dash_hall.specs.Hearing.{HaveHeardAt}
use Rattle.dash_hall.proofs.Sharing.{FirstAre}
use Rattle.dash_stage.proofs.share.threads_hear.Given as goal

abbrev pub invariant-loop-k : goal.invariant-loop-k
invariant-loop-k l = FirstAre (ThreadKeeps (HaveHeardAt l.place l.initial.other.view.seen)) l.k l.initial.threads l.threads × (l.other ≡ l.initial.other)
