use Rattle.choreographer.proofs.Parts.{due_stays}
use Rattle.choreographer.proofs.table.Choreographer.on_due.Goals as goal

pub returns-clause-frame : goal.returns-clause-frame
returns-clause-frame g c =
    due_stays c.args.self.now.constants.phases c.args.pass.now c.due_turn.new.pass (g.H.FrameHost.is_moment c.args.host.now) c.args.phase c.due_turn.result (c.now_nanos-now.result, c.now_nanos-now.ensures.moment, c.due_turn.ensures)
