use Rattle.std.proofs.Common.{◌∙◌}
use Rattle.loop_tests.proofs.Passes.{alone_delivers, alone_begins, alone_scheduled}
use Rattle.loop_tests.proofs.choreographers.pulse_and_frame.Goals as goal

pub on_vsync-requires-clause-delivers : goal.on_vsync-requires-clause-delivers
on_vsync-requires-clause-delivers g c = alone_delivers c.args.pass.now c.args.c.now c.requires.pulses

pub do_frame-framed-requires-clause-begins : goal.do_frame-framed-requires-clause-begins
do_frame-framed-requires-clause-begins g c =
    alone_begins c.args.c.now c.args.pass.now c.on_vsync.new.pass c.on_vsync.result c.in-Some.pulse c.requires.passes.0 c.requires.pulses c.on_vsync.ensures.turn.3.number c.in-Some.is c.on_vsync.ensures.pulse.awaits

pub returns-clause-pass : goal.returns-clause-pass
returns-clause-pass g c =
    let t = c.on_vsync.ensures.turn.3 in
    let s = c.do_frame-framed.ensures.turns.same in ((s.0 ∙ (t.table ∙ c.requires.passes.0.0), s.2 ∙ (t.constants ∙ c.requires.passes.0.1)), s.1 ∙ t.number)

pub returns-clause-frame : goal.returns-clause-frame
returns-clause-frame g c = alone_scheduled c.args.c.now c.args.pass.now c.on_vsync.new.pass c.do_frame-framed.new.pass c.on_vsync.ensures.turn.0 c.on_vsync.ensures.turn.1 c.do_frame-framed.result c.requires.passes.0 c.requires.pulses c.on_vsync.ensures.turn.3 c.do_frame-framed.ensures.turns.awaits

pub returns-clause-client : goal.returns-clause-client
returns-clause-client g c = (c.do_frame-framed.ensures.keeps.serves c.args.c.now (c.requires.passes.1, c.requires.passes.2)).0
