use Rattle.std.proofs.Common.{refl}
use Rattle.plain_loop.proofs.Keeping.{unbar_keeps, line_ready}
use Rattle.plain_loop.proofs.lines.Line.remove_barrier.Goals as goal

pub returns-clause-keeps : goal.returns-clause-keeps
returns-clause-keeps g c = unbar_keeps _ _ c.requires (line_ready _ c.remove_barrier.new.self _ c.remove_barrier.ensures.ready c.remove_barrier.ensures.same refl refl refl refl) (record { queue = refl; pool = refl; poster = refl; pass = refl }) c.remove_barrier.ensures.did.back c.args.token c.remove_barrier.result c.remove_barrier.ensures.did.unbarred c.remove_barrier.ensures.did.none
