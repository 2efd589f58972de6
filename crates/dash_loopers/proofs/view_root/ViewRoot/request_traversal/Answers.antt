use Rattle.std.proofs.Common.{sym, ◌∙◌}
use Rattle.std.proofs.lemmas.Result.{on_ok_weaker}
use Rattle.dash_loopers.specs.Played.{calls_of}
use Rattle.dash_loopers.proofs.QuietPosts.{root_stays, root_then, tells_then}
use Rattle.dash_loopers.proofs.ViewSteps.{requested_anew}
use Rattle.dash_loopers.proofs.view_root.ViewRoot.request_traversal.Goals as goal

pub returns-clause-keeps : goal.returns-clause-keeps
returns-clause-keeps g c =
    let host = c.args.host.now in
    let middle = c.post_barrier.new.self in
    let pass = c.args.pass.now in
    root_then host middle c.post.new.host pass pass c.post.new.pass (root_stays host middle pass c.post_barrier.ensures.stays.ready c.post_barrier.ensures.stays.origin) c.post.ensures.keeps

pub returns-clause-shows : goal.returns-clause-shows
returns-clause-shows g c =
    let host = c.args.host.now in
    let middle = c.post_barrier.new.self in
    on_ok_weaker c.post.result
    (λ shows lockstep s q at may. requested_anew lockstep s q at c.traversal-phase.result host.poster.now middle.poster.now c.in_ok-token.token (calls_of c.post.new.host.poster.now) c.args.pass.now c.post.new.pass
    c.args.self.now c.post.new.self (sym c.is_some.ensures ∙ c.if-is_some.false) c.in_ok-token.ensures.called.made (c.traversal-phase.ensures.phase s)
    (shows lockstep s q at (tells_then host middle lockstep at c.in_ok-token.ensures.stays.origin may)))
    c.post.ensures.shows
