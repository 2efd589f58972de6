use Rattle.std.proofs.Common.{rules}
use Rattle.dash_hall.proofs.Sending.{hosted}
use Rattle.dash_hall.proofs.HostClock.{unbarred_adds}
use Rattle.dash_hall.proofs.host.Host.remove_barrier.Goals as goal

pub returns-clause-stays : goal.returns-clause-stays
returns-clause-stays g c =
    let h = c.args.self.now in
    record {
      ready = hosted _ h.poster.now c.remove_barrier.new.way.poster.now h.pass.now c.remove_barrier.new.way.pass.now c.requires c.remove_barrier.ensures.called.by.on
          (unbarred_adds h.now c.args.token h.poster.now c.remove_barrier.new.way.poster.now h.pass.now c.remove_barrier.new.way.pass.now c.remove_barrier.result c.remove_barrier.ensures.called.by.on c.remove_barrier.ensures.called.by.made c.remove_barrier.ensures.called.by.none);
      origin = search rules;
    }
