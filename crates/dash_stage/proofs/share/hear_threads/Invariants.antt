use Rattle.dash_hall.specs.Hearing.{HaveHeard, AtEach, AreKept}
use Rattle.dash_threads.specs.Threads.{ThreadKeeps}
use Rattle.dash_stage.specs.Sharing.{ControllerKeeps}
use Rattle.dash_stage.proofs.ByClock.{HasHeardOn}
use Rattle.dash_stage.proofs.share.hear_threads.Given as goal

abbrev pub invariant-loop-looper : goal.invariant-loop-looper
invariant-loop-looper l = record {
  threads : AtEach (ThreadKeeps AreKept) l.initial.threads l.threads;
  kept : ControllerKeeps HaveHeard l.initial.controller l.controller;
  heard : HasHeardOn l.looper l.threads l.controller;
}
