use Rattle.animator.proofs.Rising.{rises, stops, ends}
use Rattle.animator.proofs.plan.rise_from.Goals as goal

pub loop-key-preserved : goal.loop-key-preserved
loop-key-preserved c = rises c.loop-key.place c.args.keys.now c.loop-key.key-index _ _ c.loop-key-test.true c.if-key-place.false c.loop-key.invariant

pub returns-then-key-place : goal.returns-then-key-place
returns-then-key-place c = stops c.loop-key.place c.args.keys.now c.loop-key.key-index _ _ c.loop-key-test.true c.if-key-place.true c.loop-key.invariant

pub returns : goal.returns
returns c = ends c.loop-key.place c.args.keys.now c.loop-key.key-index _ c.loop-key-test.false c.loop-key.invariant
