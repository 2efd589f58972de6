use Rattle.std.proofs.Common.{refl}
use Rattle.plain_loop.proofs.Keeping.{erases_keep, line_ready}
use Rattle.plain_loop.proofs.lines.Line.remove.Goals as goal

pub returns-clause-keeps : goal.returns-clause-keeps
returns-clause-keeps g c = erases_keep c.args.filter _ _ c.remove.result c.requires (line_ready _ c.remove.new.self _ c.remove.ensures.ready c.remove.ensures.same refl refl refl refl) (record { queue = refl; pool = refl; poster = refl; pass = refl }) c.remove.ensures.did
