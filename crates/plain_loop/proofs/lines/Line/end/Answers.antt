use Rattle.std.proofs.Common.{refl}
use Rattle.plain_loop.proofs.Keeping.{quits_keep, line_ready}
use Rattle.plain_loop.proofs.lines.Line.end.Goals as goal

pub returns-clause-keeps : goal.returns-clause-keeps
returns-clause-keeps g c = quits_keep c.args.safe c.uptime_millis-now.result _ _ c.quit.result c.requires (line_ready _ c.quit.new.self _ c.quit.ensures.ready c.quit.ensures.same refl refl refl refl) (record { queue = refl; pool = refl; poster = refl; pass = refl }) c.quit.ensures.did
