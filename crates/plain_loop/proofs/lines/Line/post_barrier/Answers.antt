use Rattle.std.proofs.Common.{refl}
use Rattle.plain_loop.proofs.Keeping.{bar_keeps, line_ready}
use Rattle.plain_loop.proofs.lines.Line.post_barrier.Goals as goal

pub returns-clause-keeps : goal.returns-clause-keeps
returns-clause-keeps g c = bar_keeps _ _ c.requires (line_ready _ c.post_barrier.new.self _ c.post_barrier.ensures.ready c.post_barrier.ensures.same refl refl refl refl) (record { queue = refl; pool = refl; poster = refl; pass = refl }) c.post_barrier.ensures.did.back c.uptime_millis-now.result c.post_barrier.result c.post_barrier.ensures.did.barred c.post_barrier.ensures.did.none
