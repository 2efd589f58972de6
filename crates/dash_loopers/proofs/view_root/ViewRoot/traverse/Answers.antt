use Rattle.std.proofs.lemmas.Result.{on_ok_weaker}
use Rattle.dash_loopers.specs.Places.{HasGauges, HasPainted}
use Rattle.dash_loopers.proofs.ViewSteps.{ok_within, traverses}
use Rattle.dash_loopers.proofs.view_root.ViewRoot.traverse.Goals as goal

pub returns-clause-shows : goal.returns-clause-shows
returns-clause-shows g c pass =
    let root = c.args.self.now in
    let root' = c.paint.new.self in
    on_ok_weaker c.paint.result
    (λ told lockstep s q at may. traverses lockstep s q at c.args.host.now.poster.now c.remove_barrier.new.self.poster.now c.in-Some.token pass root root' c.in-Some.is c.in_ok-remove_barrier.ensures.called.made
    (record { gauges = c.paint.ensures.same.0; barrier = c.paint.ensures.same.1; edition = c.paint.ensures.same.2 }) (told s q))
    (ok_within c.paint.result (λ s q. HasGauges s q root) (λ s q. HasPainted s q root root') c.paint.ensures.painted)
