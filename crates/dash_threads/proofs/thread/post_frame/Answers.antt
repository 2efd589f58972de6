use Rattle.std.proofs.Common.{rules}
use Rattle.dash_hall.proofs.Growing.{goes_nowhere}
use Rattle.dash_hall.proofs.HostClock.{begins_by_clock}
use Rattle.dash_threads.proofs.ThreadRuns.{frame_made}
use Rattle.dash_threads.proofs.thread.post_frame.Goals as goal

pub post_callback-requires-clause-ready : goal.post_callback-requires-clause-ready
post_callback-requires-clause-ready g c =
    record { of_queue = c.requires.ready.queue; of_pool = c.requires.ready.pass; home = c.requires.ready.home; on = goes_nowhere _ c.args.poster.now _ c.args.pass.now c.of-began.ensures c.of-pass_began.ensures; clocked = begins_by_clock c.args.post.now _ c.args.poster.now c.of-began.ensures }

pub returns-clause-made : goal.returns-clause-made
returns-clause-made g c =
    let post = c.args.post in
    frame_made c.post_callback.result _ _ c.args.poster.now c.post_callback.new.self.poster.now _ _ _ _ post.now post.phase c.from-id.result post.id post.delay c.from-id.ensures
    c.post_callback.ensures.stays.origin c.post_callback.ensures.stays.ready c.of-began.ensures (search rules) c.post_callback.ensures.turn
