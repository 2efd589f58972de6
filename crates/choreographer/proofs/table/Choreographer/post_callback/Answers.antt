use Rattle.choreographer.proofs.Parts.{posted_stays}
use Rattle.choreographer.proofs.table.Choreographer.post_callback.Goals as goal

pub returns-in-Ok-Asked-clause-frame : goal.returns-in-Ok-Asked-clause-frame
returns-in-Ok-Asked-clause-frame g c =
    posted_stays c.args.self.now.constants.phases c.args.pass.now c.post_turn.new.pass c.args.phase c.saturating_add-due.result c.args.id c.args.token c.now_nanos-now.result c.post_turn.result c.post_turn.ensures

pub returns-in-Ok-Already-clause-frame : goal.returns-in-Ok-Already-clause-frame
returns-in-Ok-Already-clause-frame g c =
    posted_stays c.args.self.now.constants.phases c.args.pass.now c.post_turn.new.pass c.args.phase c.saturating_add-due.result c.args.id c.args.token c.now_nanos-now.result c.post_turn.result c.post_turn.ensures

pub returns-in-Accepted-clause-frame : goal.returns-in-Accepted-clause-frame
returns-in-Accepted-clause-frame g c =
    posted_stays c.args.self.now.constants.phases c.args.pass.now c.post_turn.new.pass c.args.phase c.saturating_add-due.result c.args.id c.args.token c.now_nanos-now.result c.post_turn.result c.post_turn.ensures

pub returns-in-Refused-clause-frame : goal.returns-in-Refused-clause-frame
returns-in-Refused-clause-frame g c =
    posted_stays c.args.self.now.constants.phases c.args.pass.now c.post_turn.new.pass c.args.phase c.saturating_add-due.result c.args.id c.args.token c.now_nanos-now.result c.post_turn.result c.post_turn.ensures

pub returns-in-NoMemory-clause-frame : goal.returns-in-NoMemory-clause-frame
returns-in-NoMemory-clause-frame g c =
    posted_stays c.args.self.now.constants.phases c.args.pass.now c.post_turn.new.pass c.args.phase c.saturating_add-due.result c.args.id c.args.token c.now_nanos-now.result c.post_turn.result c.post_turn.ensures

pub returns-in-Err-clause-frame : goal.returns-in-Err-clause-frame
returns-in-Err-clause-frame g c =
    posted_stays c.args.self.now.constants.phases c.args.pass.now c.post_turn.new.pass c.args.phase c.saturating_add-due.result c.args.id c.args.token c.now_nanos-now.result c.post_turn.result c.post_turn.ensures
