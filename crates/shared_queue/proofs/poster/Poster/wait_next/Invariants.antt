use Rattle.std.proofs.Common.{ℕ}
use Rattle.shared_queue.specs.Known.{IsOf}
use Rattle.shared_queue.specs.Waiting.{Slept}
use Rattle.shared_queue.proofs.poster.Poster.wait_next.Given as goal

abbrev pub invariant-loop : goal.invariant-loop
invariant-loop g l = record {
  queue : IsOf l.self l.queue;
  slept : (n : ℕ) × Slept (g.C.Clock.shows l.clock) l.start l.idle_owed l.cap n l.initial.self l.self;
}
