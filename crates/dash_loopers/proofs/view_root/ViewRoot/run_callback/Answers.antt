use Rattle.std.proofs.lemmas.Result.{on_ok_weaker}
use Rattle.dash_loopers.specs.Played.{calls_of}
use Rattle.dash_loopers.proofs.QuietPosts.{root_stays}
use Rattle.dash_loopers.proofs.ViewSteps.{runs_traversal, runs_animation}
use Rattle.dash_loopers.proofs.view_root.ViewRoot.run_callback.Goals as goal

pub returns-then-id-eq-TRAVERSAL_CALLBACK-clause-keeps : goal.returns-then-id-eq-TRAVERSAL_CALLBACK-clause-keeps
returns-then-id-eq-TRAVERSAL_CALLBACK-clause-keeps g c = root_stays c.args.host.now c.traverse.new.host c.args.pass.now c.traverse.ensures.ready c.traverse.ensures.origin

pub returns-then-id-eq-TRAVERSAL_CALLBACK-clause-shows : goal.returns-then-id-eq-TRAVERSAL_CALLBACK-clause-shows
returns-then-id-eq-TRAVERSAL_CALLBACK-clause-shows g c =
    let pass = c.args.pass.now in
    on_ok_weaker c.traverse.result
    (λ shows lockstep s q at may. runs_traversal lockstep s q at c.args.id (calls_of c.args.host.now.poster.now) (calls_of c.traverse.new.host.poster.now) pass pass c.args.self.now c.traverse.new.self
    c.if-id-eq-TRAVERSAL_CALLBACK.true (shows lockstep s q at may))
    (c.traverse.ensures.shows pass)

pub returns-then-id-ge-FIRST_ANIMATION-clause-shows : goal.returns-then-id-ge-FIRST_ANIMATION-clause-shows
returns-then-id-ge-FIRST_ANIMATION-clause-shows g c =
    on_ok_weaker c.animate.result
    (λ shows lockstep s q at may. runs_animation lockstep s q at c.args.id (calls_of c.args.host.now.poster.now) (calls_of c.animate.new.host.poster.now) c.args.pass.now c.animate.new.pass c.args.self.now c.animate.new.self
    c.if-id-eq-TRAVERSAL_CALLBACK.false c.if-id-ge-FIRST_ANIMATION.true (shows lockstep s q at may))
    c.animate.ensures.shows
