use Rattle.std.proofs.Common.{◌≡◌, [], ◌∷◌, ◌++◌}
use Rattle.dash_hall.specs.Kits.{queue_key, queue_constants}
use Rattle.dash_hall.proofs.HallSteps.{keyed_more, queues_more}
use Rattle.dash_hall.proofs.hall.queues.Goals as goal

pub loop-looper-preserved : goal.loop-looper-preserved
loop-looper-preserved c =
    let at = c.loop-looper in
    let q = c.in_ok-queue.queue in
    let items : c.push.new.self.items ≡ at.queues.items ++ q ∷ [] = c.in_ok-push.ensures.items in
    record {
      queues = keyed_more queue_key (queue_constants c.args.lockstep c.args.script.now c.args.pool.now) at.queues.items _ q at.looper items at.invariant.queues c.in_ok-queue.ensures.constants;
      dealt = queues_more at.queues.items _ q c.args.kits.now.items at.kits.items c.queue.new.kits.items items at.invariant.dealt c.in_ok-queue.ensures.dealt;
    }
