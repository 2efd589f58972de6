use Rattle.std.proofs.Common.{◌∙◌}
use Rattle.inbox_queue.specs.MainQueue.{threads_of, seen}
use Rattle.inbox_queue.proofs.Playing.{halt_last, halt_more}
use Rattle.inbox_queue.proofs.main_queue.Place.halt.Goals as goal

pub returns-then-halt_once-clause-made : goal.returns-then-halt_once-clause-made
returns-then-halt_once-clause-made g c =
    halt_last (threads_of c.args.hands.now) (threads_of c.loop.hands) (threads_of c.drain.new.hands) c.drain.result (seen c.args.hands.now) (seen c.loop.hands) (seen c.drain.new.hands) (seen c.halt_once.new.hands)
    c.loop.invariant.1 (c.drain.ensures.at.1 ∙ c.loop.invariant.1) c.loop.invariant.2 c.drain.ensures.made (c.halt_once.ensures.halted c.if-halt_once.true)

pub loop-preserved : goal.loop-preserved
loop-preserved g c = (
  c.halt_once.ensures.at.0,
  c.halt_once.ensures.at.1 ∙ c.drain.ensures.at.1 ∙ c.loop.invariant.1,
  halt_more (threads_of c.args.hands.now) (threads_of c.loop.hands) (threads_of c.drain.new.hands) c.drain.result (seen c.args.hands.now) (seen c.loop.hands) (seen c.drain.new.hands) (seen c.halt_once.new.hands)
      c.loop.invariant.1 (c.drain.ensures.at.1 ∙ c.loop.invariant.1) c.loop.invariant.2 c.drain.ensures.made (c.halt_once.ensures.same c.if-halt_once.false),
)
