use Rattle.std.proofs.Common.{◌∙◌}
use Rattle.inbox_queue.specs.MainQueue.{threads_of, seen}
use Rattle.inbox_queue.proofs.Playing.{look_more}
use Rattle.inbox_queue.proofs.main_queue.Place.drain.Goals as goal

pub loop-preserved : goal.loop-preserved
loop-preserved g c = (
  c.look.ensures.at.0,
  c.look.ensures.at.1 ∙ c.loop.invariant.1,
  look_more (threads_of c.args.hands.now) (threads_of c.loop.hands) c.look.result (seen c.args.hands.now) (seen c.loop.hands) (seen c.look.new.hands) c.loop.invariant.1 c.loop.invariant.2 c.look.ensures.made,
)
