use Rattle.std.proofs.Common.{refl}
use Rattle.plain_loop.proofs.Keeping.{removes_keep, line_ready}
use Rattle.plain_loop.proofs.lines.Line.remove_values.Goals as goal

pub returns-clause-keeps : goal.returns-clause-keeps
returns-clause-keeps g c = removes_keep _ _ _ c.take_out.result c.requires (line_ready _ c.take_out.new.way _ c.take_out.ensures.ready c.take_out.ensures.same refl refl refl refl) (record { queue = refl; pool = refl; poster = refl; pass = refl }) c.take_out.ensures.taken c.take_out.ensures.none
