use Rattle.dash_hall.specs.Hearing.{HasHeard, AreKept}
use Rattle.dash_threads.specs.declared.thread.PostingThread.{PostingThread}
use Rattle.dash_threads.specs.Threads.{ThreadKeeps}
use Rattle.dash_hall.proofs.Sharing.{FirstAre}
use Rattle.dash_hall.proofs.OneByOne.{Tells}
use Rattle.dash_stage.proofs.share.threads_tell.Given as goal

abbrev pub invariant-loop-k : goal.invariant-loop-k
invariant-loop-k l = FirstAre (Tells (λ (t : PostingThread). t.kit.posters.items) (ThreadKeeps AreKept) l.place l.other.view.seen) l.k l.initial.threads l.threads × HasHeard l.initial.other l.other
