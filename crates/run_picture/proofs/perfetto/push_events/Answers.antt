use Rattle.run_picture.proofs.Traced.{event_more}
use Rattle.run_picture.proofs.perfetto.push_events.Goals as goal

pub loop-mark-preserved : goal.loop-mark-preserved
loop-mark-preserved c =
    event_more c.args.marks.now c.loop-mark.mark-index c.args.period _ _ c.loop-mark.out.items _ _ c.loop-mark-test.true c.in_ok-push.ensures.items c.loop-mark.invariant c.in_ok-value.ensures
