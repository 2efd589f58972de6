use Rattle.std.proofs.Common.{rules, ◌≢◌, refl, arith, ap}
use Rattle.dash_loopers.specs.Played.{calls_of}
use Rattle.dash_loopers.proofs.PlaySteps.{delivered_none, step_delivered, still_delivered, waits_still, starts_quiet}
use Rattle.dash_loopers.proofs.player.Place.on_frame.Goals as goal
use Rattle.dash_loopers.proofs.LooperLeaves.{queue_left}
use Rattle.std.specs.Prelude.{Bool, ◌&&◌}
use Rattle.run_model.specs.Loopers.{starts_frame}

pub returns-in-2-clause-delivers : goal.returns-in-2-clause-delivers
returns-in-2-clause-delivers g c =
    let s = c.args.self.now.script.now in
    let q = c.args.self.now.looper in
    let m = c.args.p.now in
    let old = c.args.own.now in
    let own = c.on_due.new.own in
    step_delivered s q c.args.now (g.U.Uptime.is_moment c.args.uptime.now) m (calls_of old.poster.now) (calls_of own.poster.now) c.args.parts.now c.on_due.new.parts old.journal.now.acts own.journal.now.acts (λ at a. a) c.on_due.ensures.asks.seen
    (waits_still q m c.args.parts.now c.on_due.new.parts (starts_quiet q m c.args.parts.now.awaits (λ e. omega (arith, e, c.in-2.is))) c.on_due.ensures.asks.latest c.on_due.ensures.awaits) c.on_due.ensures.asks.latest c.on_due.ensures.asks.quiet
    (λ at a. delivered_none s q at m a c.requires.callback c.requires.handler) (λ at a. refl) (λ text lockstep at may a is. c.on_due.ensures.plays lockstep text a is) c.on_due.ensures.tells.acts

pub returns-in_default-clause-delivers : goal.returns-in_default-clause-delivers
returns-in_default-clause-delivers g c =
    let s = c.args.self.now.script.now in
    let q = c.args.self.now.looper in
    let m = c.args.p.now in
    let old = c.args.own.now in
    let isnt : m.what ≢ 0 = search rules in
    still_delivered s q c.args.now (g.U.Uptime.is_moment c.args.uptime.now) m (calls_of old.poster.now) (calls_of old.poster.now) c.args.parts.now c.args.parts.now old.journal.now.acts old.journal.now.acts (λ at a. a) refl refl (starts_quiet q m c.args.parts.now.awaits isnt)
    (λ at a. delivered_none s q at m a c.requires.callback c.requires.handler) (λ at a. refl) (λ text lockstep at may a is. is) refl

pub returns-in_default-clause-leaves : goal.returns-in_default-clause-leaves
returns-in_default-clause-leaves g c = queue_left c.args.now c.args.parts.now c.args.own.now

pub returns-then-not-parts-clause-leaves : goal.returns-then-not-parts-clause-leaves
returns-then-not-parts-clause-leaves g c = queue_left c.args.now c.args.parts.now c.args.own.now

pub returns-then-not-parts-clause-delivers : goal.returns-then-not-parts-clause-delivers
returns-then-not-parts-clause-delivers g c =
    let s = c.args.self.now.script.now in
    let q = c.args.self.now.looper in
    let m = c.args.p.now in
    let old = c.args.own.now in
    let parts = c.args.parts.now in
    still_delivered s q c.args.now (g.U.Uptime.is_moment c.args.uptime.now) m (calls_of old.poster.now) (calls_of old.poster.now) parts parts old.journal.now.acts old.journal.now.acts (λ at a. a) refl refl
    (ap (λ (b : Bool). b && starts_frame q m) c.if-not-parts.true)
    (λ at a. delivered_none s q at m a c.requires.callback c.requires.handler) (λ at a. refl) (λ text lockstep at may a is. is) refl

pub do_frame-requires-clause-awaited : goal.do_frame-requires-clause-awaited
do_frame-requires-clause-awaited g c = c.if-not-parts.false
