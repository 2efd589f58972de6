use Rattle.std.proofs.Common.{refl}
use Rattle.shared_queue.proofs.Waits.{slept_more, may_sleep, wait_stays}
use Rattle.shared_queue.proofs.poster.Poster.wait_next.Goals as goal

pub loop-init : goal.loop-init
loop-init g c = record { queue = c.requires.queue; slept = (0, refl) }

pub loop-preserved : goal.loop-preserved
loop-preserved g c = record {
  queue = c.look.ensures.queue;
  slept = slept_more (g.C.Clock.shows c.args.clock.now) c.args.start c.args.idle_owed c.args.cap c.args.self.now c.loop.self c.look.new.self c.loop.invariant.slept c.in-Sleeps.ensures.done.0;
}

pub wait-requires-after_bounds : goal.wait-requires-after_bounds
wait-requires-after_bounds g c κs within =
    may_sleep (g.C.Clock.shows c.args.clock.now) c.args.start c.args.idle_owed c.args.cap c.loop.self c.heard-heard.result.poster.value c.look.new.self c.heard-heard.result.cap c.in-Sleeps.limit
    c.heard-heard.ensures.poster c.heard-heard.ensures.cap c.in-Sleeps.ensures.done

pub returns-in-Ends-clause-same : goal.returns-in-Ends-clause-same
returns-in-Ends-clause-same g c = wait_stays (g.C.Clock.shows c.args.clock.now) c.args.start c.args.idle_owed c.args.cap c.args.self.now c.loop.self c.look.new.self c.in-Ends.waited c.loop.invariant.slept c.in-Ends.ensures.done
