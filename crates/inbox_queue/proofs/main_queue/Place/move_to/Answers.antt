use Rattle.std.proofs.Common.{◌∙◌, refl}
use Rattle.inbox_queue.specs.declared.main_queue.Move.TheVariants.{There}
use Rattle.inbox_queue.specs.MainQueue.{threads_of, seen}
use Rattle.inbox_queue.proofs.Playing.{drive_none, drive_start, drive_last, drive_more, drive_stays}
use Rattle.inbox_queue.proofs.main_queue.Place.move_to.Goals as goal

pub returns-then-time-eq0-clause-made : goal.returns-then-time-eq0-clause-made
returns-then-time-eq0-clause-made g c = drive_start (threads_of c.args.hands.now) c.args.time (seen c.args.hands.now) (seen c.args.hands.now) c.if-time-eq0.true refl

pub loop-init : goal.loop-init
loop-init g c = (c.requires, refl, drive_none (threads_of c.args.hands.now) c.args.time (seen c.args.hands.now))

pub returns-then-next-time-clause-made : goal.returns-then-next-time-clause-made
returns-then-next-time-clause-made g c =
    drive_last (threads_of c.args.hands.now) (threads_of c.loop.hands) (threads_of c.drain.new.hands) c.args.time c.at_most-next.result c.drain.result (seen c.args.hands.now) (seen c.loop.hands) (seen c.drain.new.hands) (seen c.advance.new.hands)
    c.if-time-eq0.false c.loop.invariant.1 (c.drain.ensures.at.1 ∙ c.loop.invariant.1) c.if-next-time.true c.at_most-next.ensures c.loop.invariant.2 c.drain.ensures.made c.in-There.ensures.made

pub loop-preserved-else-next-time : goal.loop-preserved-else-next-time
loop-preserved-else-next-time g c = (
  c.advance.ensures.at.0,
  c.advance.ensures.at.1 ∙ c.drain.ensures.at.1 ∙ c.loop.invariant.1,
  drive_more (threads_of c.args.hands.now) (threads_of c.loop.hands) (threads_of c.drain.new.hands) c.args.time c.at_most-next.result c.drain.result There (seen c.args.hands.now) (seen c.loop.hands) (seen c.drain.new.hands) (seen c.advance.new.hands)
      c.loop.invariant.1 (c.drain.ensures.at.1 ∙ c.loop.invariant.1) c.if-next-time.false c.at_most-next.ensures c.loop.invariant.2 c.drain.ensures.made c.in-There.ensures.made,
)

pub loop-preserved : goal.loop-preserved
loop-preserved g c = (
  c.advance.ensures.at.0,
  c.advance.ensures.at.1 ∙ c.drain.ensures.at.1 ∙ c.loop.invariant.1,
  drive_stays (threads_of c.args.hands.now) (threads_of c.loop.hands) (threads_of c.drain.new.hands) c.args.time c.at_most-next.result c.drain.result (seen c.args.hands.now) (seen c.loop.hands) (seen c.drain.new.hands) (seen c.advance.new.hands)
      c.loop.invariant.1 (c.drain.ensures.at.1 ∙ c.loop.invariant.1) c.at_most-next.ensures c.loop.invariant.2 c.drain.ensures.made c.in-Stays.ensures.made,
)
