use Rattle.choreographer.proofs.Parts.{taken_at}
use Rattle.choreographer.proofs.table.Choreographer.take_phase.Goals as goal

pub returns-clause-turn : goal.returns-clause-turn
returns-clause-turn g c =
    taken_at (g.H.FrameHost.is_moment c.args.host.now) c.args.self.now.constants c.args.phase c.now_nanos-now.result c.args.pass.now c.take_turn.new.pass c.take_turn.result c.requires.takes.0.pass.1 c.requires.takes.0.frame c.now_nanos-now.ensures.moment c.take_turn.ensures
