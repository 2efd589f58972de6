use Rattle.choreographer.proofs.Parts.{began_in_frame}
use Rattle.choreographer.proofs.table.Choreographer.begin_frame.Goals as goal

pub returns-clause-frame : goal.returns-clause-frame
returns-clause-frame g c = began_in_frame c.args.self.now.constants c.args.pass.now c.begin_turn.new.pass c.now_nanos-start.result c.begin_turn.result c.requires.pass.1 c.begin_turn.ensures.turn
