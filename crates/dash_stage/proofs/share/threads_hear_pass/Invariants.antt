use Rattle.std.proofs.Common.{◌≡◌}
use Rattle.dash_threads.specs.Threads.{HearsPass}
use Rattle.dash_hall.proofs.Sharing.{FirstAre}
use Rattle.dash_stage.proofs.share.threads_hear_pass.Given as goal

abbrev pub invariant-loop-k : goal.invariant-loop-k
invariant-loop-k l = FirstAre (HearsPass l.place l.initial.other.view.heard) l.k l.initial.threads l.threads × (l.other ≡ l.initial.other)
