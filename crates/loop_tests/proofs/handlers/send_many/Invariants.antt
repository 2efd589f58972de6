use Rattle.handler_post.specs.Ways.{IsReady}
use Rattle.loop_tests.proofs.handlers.send_many.Given as goal

abbrev pub invariant-loop-what : goal.invariant-loop-what
invariant-loop-what g l = IsReady l.way
