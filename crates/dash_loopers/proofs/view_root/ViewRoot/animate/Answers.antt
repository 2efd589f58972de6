use Rattle.std.proofs.Common.{sym, ◌∙◌}
use Rattle.std.proofs.lemmas.Bool.{not-false, not-true}
use Rattle.std.proofs.lemmas.Option.{slice_get_within}
use Rattle.std.proofs.lemmas.Result.{on_ok_weaker}
use Rattle.dash_loopers.specs.Played.{calls_of}
use Rattle.dash_loopers.proofs.QuietPosts.{root_then, tells_then}
use Rattle.dash_loopers.proofs.ViewSteps.{animates_none, animates_last, animates_on}
use Rattle.dash_loopers.proofs.view_root.ViewRoot.animate.Goals as goal

pub returns-then-not-x-clause-shows : goal.returns-then-not-x-clause-shows
returns-then-not-x-clause-shows g c lockstep s q at may =
    animates_none lockstep s q at c.args.gauge c.in-Some.x (calls_of c.args.host.now.poster.now) c.args.pass.now c.args.self.now (sym c.gauge.ensures ∙ c.in-Some.is) (not-true c.in-Some.x.animating c.if-not-x.true)

pub put-requires : goal.put-requires
put-requires g c = slice_get_within c.args.self.now.gauges.items c.args.gauge c.in-Some.x (sym c.gauge.ensures ∙ c.in-Some.is)

pub returns-then-not-animating-clause-shows : goal.returns-then-not-animating-clause-shows
returns-then-not-animating-clause-shows g c lockstep s q at may =
    let host = c.args.host.now in
    animates_last lockstep s q at c.args.gauge c.moved-value.result c.in-Some.x (calls_of host.poster.now) (calls_of c.request_traversal.new.host.poster.now) c.args.pass.now c.request_traversal.new.pass
    c.args.self.now c.put.new.self c.request_traversal.new.self (sym c.gauge.ensures ∙ c.in-Some.is) (not-false c.in-Some.x.animating c.if-not-x.false) c.moved-value.ensures c.if-not-animating.true
    (record { gauges = c.put.ensures.gauges; same = c.put.ensures.same }) (c.in_ok-request_traversal.ensures.shows lockstep s q at may)

pub returns-clause-keeps : goal.returns-clause-keeps
returns-clause-keeps g c =
    root_then c.args.host.now c.request_traversal.new.host c.post.new.host c.args.pass.now c.request_traversal.new.pass c.post.new.pass c.request_traversal.ensures.keeps c.post.ensures.keeps

pub returns-clause-shows : goal.returns-clause-shows
returns-clause-shows g c =
    let host = c.args.host.now in
    let middle = c.request_traversal.new.host in
    on_ok_weaker c.post.result
    (λ posts lockstep s q at may. animates_on lockstep s q at c.args.gauge c.moved-value.result c.saturating_add.result c.in-Some.x (calls_of host.poster.now) (calls_of middle.poster.now) (calls_of c.post.new.host.poster.now)
    c.args.pass.now c.request_traversal.new.pass c.post.new.pass c.args.self.now c.put.new.self c.request_traversal.new.self c.post.new.self
    (sym c.gauge.ensures ∙ c.in-Some.is) (not-false c.in-Some.x.animating c.if-not-x.false) c.moved-value.ensures c.if-not-animating.false (record { gauges = c.put.ensures.gauges; same = c.put.ensures.same }) c.saturating_add.ensures
    (c.in_ok-request_traversal.ensures.shows lockstep s q at may) (posts lockstep s q at (tells_then host middle lockstep at c.in_ok-request_traversal.ensures.keeps.origin may)))
    c.post.ensures.shows
