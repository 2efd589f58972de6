use Rattle.std.proofs.Common.{rules}
use Rattle.dash_hall.proofs.Sending.{hosted}
use Rattle.dash_hall.proofs.HostClock.{barred_adds}
use Rattle.dash_hall.proofs.host.Host.post_barrier.Goals as goal

pub returns-clause-stays : goal.returns-clause-stays
returns-clause-stays g c =
    let h = c.args.self.now in
    record {
      ready = hosted _ h.poster.now c.post_barrier.new.way.poster.now h.pass.now c.post_barrier.new.way.pass.now c.requires c.post_barrier.ensures.called.by.on
          (barred_adds h.now h.poster.now c.post_barrier.new.way.poster.now h.pass.now c.post_barrier.new.way.pass.now c.post_barrier.result c.post_barrier.ensures.called.by.on c.post_barrier.ensures.turn c.post_barrier.ensures.called.by.none);
      origin = search rules;
    }
