use Rattle.std.proofs.Common.{refl}
use Rattle.plain_loop.proofs.Keeping.{quits_with_keep, line_ready}
use Rattle.plain_loop.proofs.lines.Line.end_for_values.Goals as goal

pub returns-clause-keeps : goal.returns-clause-keeps
returns-clause-keeps g c = quits_with_keep _ _ _ _ c.quit_with.result.0 c.quit_with.result.1 c.requires (line_ready _ c.quit_with.new.way _ c.quit_with.ensures.ready c.quit_with.ensures.same refl refl refl refl) (record { queue = refl; pool = refl; poster = refl; pass = refl }) c.quit_with.ensures.quits
