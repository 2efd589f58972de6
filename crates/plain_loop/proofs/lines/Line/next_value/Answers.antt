use Rattle.std.proofs.Common.{refl}
use Rattle.plain_loop.proofs.Keeping.{brings_keep, line_ready}
use Rattle.plain_loop.proofs.lines.Line.next_value.Goals as goal

pub returns-clause-keeps : goal.returns-clause-keeps
returns-clause-keeps g c =
    let out = c.hand_out.ensures.value in
    brings_keep out.0 _ _ c.requires.ready (line_ready _ c.hand_out.new.way _ c.hand_out.ensures.ready c.hand_out.ensures.same refl refl refl refl) (record { queue = refl; pool = refl; poster = refl; pass = refl }) out.3 out.4
