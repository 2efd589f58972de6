use Rattle.std.proofs.Common.{ℕ, None}
use Rattle.looper_run.specs.Holding.{workplace}
use Rattle.plain_loop.specs.Handling.{IsWorkplaceOf}
use Rattle.plain_loop.specs.Looping.{LoopsTimes}
use Rattle.plain_loop.specs.Senders.{IsQueueLooper}
use Rattle.plain_loop.proofs.beside.run_looper.Given as goal

abbrev pub invariant-loop : goal.invariant-loop
invariant-loop g l = record {
  looper : IsQueueLooper l.mailbox.queue.now l.mailbox.pool.now l.looper;
  serves : IsWorkplaceOf l.dispatcher.mailbox.now.queue.now l.dispatcher.mailbox.now.pool.now (workplace l.looper.held);
  looped : (n : ℕ) × LoopsTimes g.E.LetGo.keeps (g.C.Clock.shows l.mailbox.clock.now) l.mailbox.queue.now.constants.setting None n l.initial.looper l.looper;
  holds : g.H.Handle.Holds l.dispatcher.handlers;
}
