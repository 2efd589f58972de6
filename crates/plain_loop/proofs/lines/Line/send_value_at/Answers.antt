use Rattle.std.proofs.Common.{refl}
use Rattle.plain_loop.proofs.Keeping.{sends_with_keep, line_ready}
use Rattle.plain_loop.proofs.ValueLaws.{accepted_value}
use Rattle.plain_loop.proofs.lines.Line.send_value_at.Goals as goal

pub returns-clause-keeps : goal.returns-clause-keeps
returns-clause-keeps g c = sends_with_keep g.P.Payload.content c.due-due.result c.args.value _ _ c.send_with.result c.requires (line_ready _ c.send_with.new.self _ c.send_with.ensures.ready c.send_with.ensures.same refl refl refl refl) (record { queue = refl; pool = refl; poster = refl; pass = refl }) c.send_with.ensures.did

pub returns-clause-accepted : goal.returns-clause-accepted
returns-clause-accepted g c = accepted_value g.P.Payload.content _ c.due-due.result c.args.value _ _ c.args.self.now.pass.now c.send_with.new.self.pass.now c.send_with.result c.send_with.ensures.did
