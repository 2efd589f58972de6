use Rattle.std.proofs.Common.{refl}
use Rattle.plain_loop.proofs.Keeping.{sends_keep, line_ready}
use Rattle.plain_loop.proofs.lines.Line.send_at.Goals as goal

pub returns-clause-keeps : goal.returns-clause-keeps
returns-clause-keeps g c = sends_keep c.due-due.result _ _ c.send.result c.requires (line_ready _ c.send.new.self _ c.send.ensures.ready c.send.ensures.same refl refl refl refl) (record { queue = refl; pool = refl; poster = refl; pass = refl }) c.send.ensures.did
