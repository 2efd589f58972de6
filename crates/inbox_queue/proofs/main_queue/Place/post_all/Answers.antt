use Rattle.std.proofs.Common.{◌∙◌, arith}
use Rattle.inbox_queue.specs.MainQueue.{threads_of, seen}
use Rattle.inbox_queue.proofs.Playing.{post_next}
use Rattle.inbox_queue.proofs.main_queue.Place.post_all.Goals as goal

pub loop-parcel-preserved : goal.loop-parcel-preserved
loop-parcel-preserved g c = (
  c.in_ok-post.ensures.at.0,
  c.in_ok-post.ensures.at.1 ∙ c.loop-parcel.invariant.1,
  post_next (threads_of c.args.hands.now) (threads_of c.loop-parcel.hands) c.args.parcels.now c.loop-parcel.parcel-index _ (seen c.args.hands.now) (seen c.loop-parcel.hands) (seen c.post.new.hands) c.loop-parcel-test.true c.loop-parcel.invariant.1 c.loop-parcel.invariant.2 c.in_ok-post.ensures.made,
  let lt = c.loop-parcel-test.true in omega (arith, lt),
)
