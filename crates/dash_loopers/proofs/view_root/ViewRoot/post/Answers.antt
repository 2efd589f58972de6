use Rattle.std.proofs.Common.{ap}
use Rattle.std.proofs.lemmas.Result.{on_ok_weaker}
use Rattle.dash_loopers.proofs.QuietPosts.{placed_on}
use Rattle.dash_loopers.proofs.ViewSteps.{frame_placed}
use Rattle.dash_loopers.proofs.view_root.ViewRoot.post.Goals as goal

pub returns-clause-keeps : goal.returns-clause-keeps
returns-clause-keeps g c = record {
  ready = c.post_callback.ensures.stays.ready;
  origin = c.post_callback.ensures.stays.origin;
  posts = placed_on c.post_callback.result c.args.pass.now c.post_callback.new.pass c.args.host.now.now _ _ c.args.phase c.args.id 0 c.post_callback.ensures.turn c.post_callback.ensures.none;
}

pub returns-clause-shows : goal.returns-clause-shows
returns-clause-shows g c =
    let host = c.args.host.now in
    let host' = c.post_callback.new.self in
    on_ok_weaker c.post_callback.result
    (λ placed lockstep s q at may. frame_placed lockstep s q host.handler.id host'.handler.id host.now at c.args.phase c.args.id host.poster.now host'.poster.now host.pass.now host'.pass.now
    c.args.pass.now c.post_callback.new.pass c.args.self.now (ap (λ o. o.handler) c.post_callback.ensures.stays.origin) c.post_callback.ensures.on may placed)
    c.post_callback.ensures.turn
