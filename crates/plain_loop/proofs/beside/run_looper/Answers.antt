use Rattle.std.proofs.Common.{refl}
use Rattle.plain_loop.proofs.Lending.{place_at}
use Rattle.plain_loop.proofs.Looping.{times_more, place_still}
use Rattle.plain_loop.proofs.beside.run_looper.Goals as goal

pub loop-preserved : goal.loop-preserved
loop-preserved g c = record {
  looper = c.in_ok-loop_and_let_go.ensures.looped.looper c.if-branch.false;
  serves = c.loop_and_let_go.ensures.keeps.serves _ (place_still _ _ _ _ c.in_ok-loop_and_let_go.ensures.looped.place c.loop.invariant.serves);
  looped = times_more _ _ _ _ _ _ c.loop.looper c.loop_and_let_go.new.looper _ c.if-branch.false c.loop.invariant.looped.1 c.in_ok-loop_and_let_go.ensures.looped.loops;
  holds = c.in_ok-loop_and_let_go.ensures.awaits;
}

pub loop-init : goal.loop-init
loop-init g c = record { looper = c.requires.looper; serves = place_at _ _ _ c.requires.looper.at; looped = (0, refl); holds = c.requires.holds }
