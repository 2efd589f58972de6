use Rattle.std.proofs.Common.{rules, refl, ap}
use Rattle.dash_hall.proofs.Growing.{goes_nowhere}
use Rattle.dash_hall.proofs.Sending.{hosted, placed_by, unplaced_by}
use Rattle.dash_hall.proofs.HostClock.{begins_by_clock, adds_hosted}
use Rattle.dash_hall.proofs.host.Host.post_callback.Goals as goal

pub post_callback-requires-clause-ready : goal.post_callback-requires-clause-ready
post_callback-requires-clause-ready g c =
    let h = c.requires.ready in
    record { of_queue = h.of_queue; of_pool = h.of_pool; home = h.home; on = goes_nowhere _ c.args.self.now.poster.now _ c.args.self.now.pass.now c.of-began.ensures c.of-pass_began.ensures; clocked = begins_by_clock c.args.self.now.now _ c.args.self.now.poster.now c.of-began.ensures }

pub returns-clause-stays : goal.returns-clause-stays
returns-clause-stays g c =
    let p = c.args.self.now.poster.now in
    let q = c.post_callback.new.host.poster.now in
    record {
      ready = hosted _ p q c.args.self.now.pass.now c.post_callback.new.host.pass.now c.requires.ready (search rules)
          (adds_hosted _ _ c.args.self.now.now p q c.post_callback.new.host.pass.now c.post_callback.ensures.keeps.origin c.post_callback.ensures.keeps.ready c.of-began.ensures refl);
      origin = search rules;
    }

pub returns-clause-turn : goal.returns-clause-turn
returns-clause-turn g c =
    let h = c.args.self.now in
    placed_by c.post_callback.result c.placed.result _ _ h.now h.handler.id c.post_callback.new.host.handler.id h.poster.now c.post_callback.new.host.poster.now c.args.phase c.args.id c.args.delay
    (ap (λ o. o.handler) c.post_callback.ensures.keeps.origin) c.placed.ensures.ok c.post_callback.ensures.turn

pub returns-clause-none : goal.returns-clause-none
returns-clause-none g c =
    let h = c.args.self.now in
    unplaced_by c.post_callback.result c.placed.result _ _ h.now h.handler.id c.post_callback.new.host.handler.id h.poster.now c.post_callback.new.host.poster.now c.args.phase c.args.id c.args.delay
    (ap (λ o. o.handler) c.post_callback.ensures.keeps.origin) c.placed.ensures.err c.post_callback.ensures.turn
