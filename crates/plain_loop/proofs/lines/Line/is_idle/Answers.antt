use Rattle.std.proofs.Common.{refl}
use Rattle.plain_loop.proofs.Keeping.{idle_keeps, line_ready}
use Rattle.plain_loop.proofs.lines.Line.is_idle.Goals as goal

pub returns-clause-keeps : goal.returns-clause-keeps
returns-clause-keeps g c = idle_keeps c.uptime_millis-now.result _ _ c.is_idle.result c.requires (line_ready _ c.is_idle.new.self _ c.is_idle.ensures.ready c.is_idle.ensures.same refl refl refl refl) (record { queue = refl; pool = refl; poster = refl; pass = refl }) c.is_idle.ensures.did
