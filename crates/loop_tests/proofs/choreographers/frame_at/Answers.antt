use Rattle.std.proofs.Common.{rules}
use Rattle.choreographer.proofs.Pulsing.{any_begins}
use Rattle.loop_tests.proofs.choreographers.frame_at.Goals as goal

pub do_frame-requires-clause-begins : goal.do_frame-requires-clause-begins
do_frame-requires-clause-begins g c = any_begins c.pulse_now.new.pass c.args.c.now (search rules) c.requires.pulses
