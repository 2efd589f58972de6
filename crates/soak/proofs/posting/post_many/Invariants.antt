use Rattle.handler_post.specs.Ways.{IsReady}
use Rattle.plain_loop.specs.Lines.{way_of}
use Rattle.soak.proofs.posting.post_many.Given as goal

abbrev pub invariant-loop-number : goal.invariant-loop-number
invariant-loop-number g l = IsReady (way_of l.line)
