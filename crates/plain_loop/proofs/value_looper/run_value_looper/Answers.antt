use Rattle.std.proofs.Common.{refl, false, None}
use Rattle.plain_loop.proofs.Lending.{place_at}
use Rattle.plain_loop.proofs.Looping.{times_more, place_still}
use Rattle.plain_loop.proofs.value_looper.run_value_looper.Goals as goal

pub loop-preserved : goal.loop-preserved
loop-preserved g c = record {
  looper = c.in_ok-loop_and_drop.ensures.looped.looper c.if-branch.false;
  serves = c.loop_and_drop.ensures.keeps.serves _ (place_still _ _ _ _ c.in_ok-loop_and_drop.ensures.looped.place c.loop.invariant.serves);
  looped = times_more false (g.C.Clock.shows c.args.mailbox.now.clock.now) c.args.mailbox.now.queue.now.constants.setting None c.loop.invariant.looped.0 c.args.looper.now c.loop.looper c.loop_and_drop.new.looper _ c.if-branch.false c.loop.invariant.looped.1 c.in_ok-loop_and_drop.ensures.looped.loops;
  holds = c.in_ok-loop_and_drop.ensures.awaits;
}

pub loop-init : goal.loop-init
loop-init g c = record { looper = c.requires.looper; serves = place_at _ _ _ c.requires.looper.at; looped = (0, refl); holds = c.requires.holds }
