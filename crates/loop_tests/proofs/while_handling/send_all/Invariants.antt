use Rattle.handler_post.specs.Ways.{IsReady}
use Rattle.plain_loop.specs.Lines.{way_of}
use Rattle.loop_tests.proofs.while_handling.send_all.Given as goal

abbrev pub invariant-loop-what : goal.invariant-loop-what
invariant-loop-what g l = IsReady (way_of l.line)
