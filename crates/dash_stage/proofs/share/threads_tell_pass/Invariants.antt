use Rattle.dash_hall.specs.Hearing.{PassHasHeard}
use Rattle.dash_hall.proofs.Sharing.{FirstAre}
use Rattle.dash_stage.proofs.Sharing.{TellsAll}
use Rattle.dash_stage.proofs.share.threads_tell_pass.Given as goal

abbrev pub invariant-loop-k : goal.invariant-loop-k
invariant-loop-k l = FirstAre (TellsAll l.place l.other.view.heard) l.k l.initial.threads l.threads × PassHasHeard l.initial.other l.other
