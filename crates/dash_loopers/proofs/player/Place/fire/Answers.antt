use Rattle.std.proofs.Common.{subst, inl, inr, eq-eqb, sym}
use Rattle.choreographer.proofs.Phases.{on_ok}
use Rattle.dash_loopers.proofs.RuleSteps.{plays_fired, plays_used_up, plays_other}
use Rattle.dash_loopers.specs.Played.{calls_of, FiresAt}
use Rattle.dash_loopers.specs.declared.player.Parts.{Parts}
use Rattle.dash_loopers.proofs.player.Place.fire.Goals as goal
use Rattle.dash_loopers.proofs.player.Place.fire.Goals.{then-p-rule-via-then-p-rule, then-p-rule-via-else-p-rule+then-p-rule-2}
use Rattle.dash_loopers.specs.Steps.{OnlyCalls}
use Rattle.dash_loopers.proofs.LooperLeaves.{none_called, calls_counted}

pub returns-then-p-rule-clause-plays : goal.returns-then-p-rule-clause-plays
returns-then-p-rule-clause-plays g c =
    plays_other c.args.self.now.script.now c.args.self.now.looper c.args.now c.args.p.now c.args.place c.args.rule.now (calls_of c.args.own.now.poster.now) c.args.parts.now
    (elim c.then-p-rule.branch [ then-p-rule-via-then-p-rule w ↦ inl w.if-p-rule.true | then-p-rule-via-else-p-rule+then-p-rule-2 w ↦ inr w.if-p-rule-2.true ])

pub returns-then-fires-clause-plays : goal.returns-then-fires-clause-plays
returns-then-fires-clause-plays g c =
    on_ok c.send.result _ _ c.send.ensures.plays (λ sends.
    plays_fired c.args.self.now.script.now c.args.self.now.looper c.args.now c.args.p.now c.args.place c.args.rule.now (calls_of c.args.own.now.poster.now) (calls_of c.send.new.own.poster.now) c.args.parts.now c.fires.new.parts c.send.new.parts
    (eq-eqb c.args.p.now.handler c.args.rule.now.handler c.if-p-rule.false) (eq-eqb c.args.p.now.what c.args.rule.now.what c.if-p-rule-2.false)
    (subst (FiresAt c.args.place c.args.rule.now.times c.args.parts.now c.fires.new.parts) c.if-fires.true c.fires.ensures.fires) sends)

pub returns-clause-plays : goal.returns-clause-plays
returns-clause-plays g c =
    plays_used_up c.args.self.now.script.now c.args.self.now.looper c.args.now c.args.p.now c.args.place c.args.rule.now (calls_of c.args.own.now.poster.now) c.args.parts.now c.fires.new.parts
    (subst (FiresAt c.args.place c.args.rule.now.times c.args.parts.now c.fires.new.parts) c.if-fires.false c.fires.ensures.fires)

pub returns-then-p-rule-clause-calls : goal.returns-then-p-rule-clause-calls
returns-then-p-rule-clause-calls g c = none_called c.args.parts.now c.args.own.now

pub returns-then-fires-clause-calls : goal.returns-then-fires-clause-calls
returns-then-fires-clause-calls g c =
    let counted = subst (FiresAt c.args.place c.args.rule.now.times c.args.parts.now c.fires.new.parts) c.if-fires.true c.fires.ensures.fires in
    calls_counted c.args.parts.now c.fires.new.parts c.send.new.parts c.args.own.now c.send.new.own counted.4 c.fires.ensures.same c.send.ensures.calls

pub returns-clause-calls : goal.returns-clause-calls
returns-clause-calls g c =
    let still = subst (FiresAt c.args.place c.args.rule.now.times c.args.parts.now c.fires.new.parts) c.if-fires.false c.fires.ensures.fires in
    subst (λ (p : Parts). OnlyCalls c.args.parts.now p c.args.own.now c.args.own.now) (sym still.0) (none_called c.args.parts.now c.args.own.now)
