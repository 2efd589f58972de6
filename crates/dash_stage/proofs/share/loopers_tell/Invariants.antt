use Rattle.dash_hall.specs.Hearing.{HasHeard, AreKept}
use Rattle.dash_loopers.specs.Loopers.{LooperKeeps, posters_of}
use Rattle.dash_hall.proofs.Sharing.{FirstAre}
use Rattle.dash_hall.proofs.OneByOne.{Tells}
use Rattle.dash_stage.proofs.share.loopers_tell.Given as goal

abbrev pub invariant-loop-k : goal.invariant-loop-k
invariant-loop-k l = FirstAre (Tells posters_of (LooperKeeps AreKept) l.place l.other.view.seen) l.k l.initial.loopers l.loopers × HasHeard l.initial.other l.other
