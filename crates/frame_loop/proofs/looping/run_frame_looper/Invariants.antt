use Rattle.std.proofs.Common.{ℕ}
use Rattle.choreographer.specs.Known.{Pass}
use Rattle.looper_run.specs.Holding.{workplace}
use Rattle.plain_loop.specs.Senders.{IsQueueLooper}
use Rattle.frame_loop.specs.Dispatching.{Serving}
use Rattle.frame_loop.specs.FrameLooping.{FramesTimes}
use Rattle.frame_loop.proofs.looping.run_frame_looper.Given as goal

abbrev pub invariant-loop : goal.invariant-loop
invariant-loop g l = record {
  looper : IsQueueLooper l.mailbox.queue.now l.mailbox.pool.now l.looper;
  serves : Serving l.dispatcher (workplace l.looper.held);
  looped : (p : Pass) × (n : ℕ)
      × FramesTimes g.E.LetGo.keeps (g.C.Clock.shows l.mailbox.clock.now) l.mailbox.queue.now.constants.setting n l.initial.looper p l.looper l.dispatcher.frames;
  holds : g.H.FrameHandle.Holds l.dispatcher.handlers;
}
