use Rattle.dash_hall.proofs.Calling.{by_erase}
use Rattle.dash_hall.proofs.calls.remove.Goals as goal

pub returns : goal.returns
returns g c = record { called = by_erase c.args.way.now c.remove.new.self c.args.filter.now c.remove.result c.erased.result c.requires c.remove.ensures.ready c.remove.ensures.same c.remove.ensures.did c.erased.ensures.ok c.erased.ensures.err }
