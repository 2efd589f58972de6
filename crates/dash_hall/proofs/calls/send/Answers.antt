use Rattle.dash_hall.proofs.Calling.{by_send}
use Rattle.dash_hall.proofs.calls.send.Goals as goal

pub returns : goal.returns
returns g c = record { called = by_send c.args.way.now c.send.new.self c.args.post.now c.send.result c.sent.result c.requires c.send.ensures.ready c.send.ensures.same c.send.ensures.did c.sent.ensures.ok c.sent.ensures.err }
