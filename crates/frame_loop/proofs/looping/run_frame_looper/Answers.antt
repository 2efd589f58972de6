use Rattle.std.proofs.Common.{rules, suc, sym, subst}
use Rattle.frame_loop.proofs.FrameLoops.{frames_more}
use Rattle.frame_loop.proofs.Keeping.{serves_place}
use Rattle.frame_loop.proofs.looping.run_frame_looper.Goals as goal

pub loop_and_let_go-requires-clause-ready : goal.loop_and_let_go-requires-clause-ready
loop_and_let_go-requires-clause-ready g c = record { serves = c.next_pulse-pulse.ensures.keeps.serves _ c.loop.invariant.serves; awaits = search rules; meets = search rules }

pub let_frames_go-requires : goal.let_frames_go-requires
let_frames_go-requires g c = (c.loop_and_let_go.ensures.keeps.serves _ (c.next_pulse-pulse.ensures.keeps.serves _ c.loop.invariant.serves)).has

pub loop-preserved : goal.loop-preserved
loop-preserved g c = record {
  looper = c.in_ok-loop_and_let_go.ensures.looped.looper c.if-branch.false;
  serves = c.let_frames_go.ensures.keeps.serves _
      (serves_place _ _ _ _ _ _ _ c.in_ok-loop_and_let_go.ensures.looped.place (c.loop_and_let_go.ensures.keeps.serves _ (c.next_pulse-pulse.ensures.keeps.serves _ c.loop.invariant.serves)));
  looped = (
    c.loop.invariant.looped.0,
    suc c.loop.invariant.looped.1,
    frames_more _ _ _ _ _ c.loop.looper c.loop_and_let_go.new.looper _ _ c.next_pulse-pulse.new.self.frames _ _ c.loop_and_let_go.new.dispatcher.frames _ c.if-branch.false
        c.loop.invariant.looped.2 c.next_pulse-pulse.ensures.asks c.in_ok-loop_and_let_go.ensures.looped.loops c.in_ok-let_frames_go.ensures.drops,
  );
  holds = subst (λ h. g.H.FrameHandle.Holds h) (sym c.let_frames_go.ensures.keeps.handlers) c.in_ok-loop_and_let_go.ensures.awaits;
}
