use Rattle.std.proofs.Common.{refl}
use Rattle.plain_loop.proofs.Keeping.{has_keeps, line_ready}
use Rattle.plain_loop.proofs.lines.Line.has.Goals as goal

pub returns-clause-keeps : goal.returns-clause-keeps
returns-clause-keeps g c = has_keeps c.args.filter _ _ c.has.result c.requires (line_ready _ c.has.new.self _ c.has.ensures.ready c.has.ensures.same refl refl refl refl) (record { queue = refl; pool = refl; poster = refl; pass = refl }) c.has.ensures.did
