use Rattle.std.proofs.Common.{rules, sym, ap, ◌∙◌, subst}
use Rattle.choreographer.specs.Plays.{Sat, MayPulse}
use Rattle.choreographer.specs.Known.{Pass}
use Rattle.choreographer.specs.Turn.{AsksIfScheduled, SchedulesIfWanted}
use Rattle.choreographer.specs.declared.view.Constants.{Constants}
use Rattle.choreographer.proofs.ByTurn.{turned, may_pulse, same_key}
use Rattle.choreographer.proofs.Quiet.{grows_prefix}
use Rattle.choreographer.proofs.Latest.{pulse_gets, pulse_comes_after}
use Rattle.choreographer.proofs.Stamps.{stamped_pulse}
use Rattle.choreographer.proofs.Waits.{pulsed_asks}
use Rattle.choreographer.proofs.Wanting.{pulsed_wanted, pulse_wanted}
use Rattle.choreographer.proofs.Pulsing.{pulse_awaits}
use Rattle.choreographer.proofs.table.Choreographer.pulse_turn.Goals as goal

pub give-requires-clause-leaves : goal.give-requires-clause-leaves
give-requires-clause-leaves g c = record {
  state = search rules;
  stamped = (
      let e = c.deliver-pulse.ensures in stamped_pulse c.take-state.result c.deliver-pulse.new.self c.take-state.ensures.found.stamped c.args.now c.deliver-pulse.result (search rules) e.pulse e.after);
  handed = search rules;
  latest = subst (λ (z : Sat). MayPulse c.args.self.now.constants z.0 c.deliver-pulse.new.self) (sym c.take-state.ensures.taken)
      (may_pulse c.args.self.now.constants c.pass.inside.seat.me.0 c.take-state.result c.deliver-pulse.new.self c.take-state.new.seat.me.0.heard c.pass.inside.number c.pass.invariant.2
      (λ n named. ap (λ (p : Pass). p.number) c.pass.view_is ∙ c.requires.delivers n named));
  asks = pulsed_asks c.take-state.result c.deliver-pulse.new.self c.args.self.now.constants c.deliver-pulse.result c.deliver-pulse.ensures.after c.take-state.ensures.found.asks;
  wanted = pulsed_wanted c.args.self.now.constants c.take-state.result c.deliver-pulse.new.self c.take-state.ensures.found.wanted c.args.now c.deliver-pulse.result c.deliver-pulse.ensures.pulse c.deliver-pulse.ensures.after;
}

pub returns-clause-turn : goal.returns-clause-turn
returns-clause-turn g c =
    let x = c.take-state.result in
    let y = c.deliver-pulse.new.self in
    let t = c.take-state.ensures in (
      x,
      y,
      turned c.args.self.now.constants (record { table = c.pass.inside.seat.table_id; number = c.pass.inside.number; view = c.pass.inside.seat.me.0 }) c.args.pass.now _ x y c.take-state.new.seat.me c.give.new.seat.me
          c.pass.view_is c.requires.pass.1 c.pass.invariant.2 c.pass.invariant.3 t.taken t.found.state t.found.heard t.found.latest (search rules) (grows_prefix x.frames.entries y.frames.entries c.deliver-pulse.ensures.quiet.1) (c.give.ensures.2, c.give.ensures.3) (search rules),
      search rules,
      search rules,
    )

pub returns-clause-pulse : goal.returns-clause-pulse
unfolding returns-clause-turn
returns-clause-pulse g c =
    let t = returns-clause-turn g c in record {
      is_pulse = search rules;
      later = pulse_comes_after c.args.pass.now _ t.0 t.1 c.args.now c.deliver-pulse.result t.2 c.take-state.ensures.found.stamped t.3;
      stamp = pulse_gets c.args.pass.now _ t.0 t.1 c.deliver-pulse.result t.2 t.4;
      awaits = pulse_awaits c.args.pass.now _ t.0 t.1 c.args.now c.deliver-pulse.result t.2
          (λ k e. subst (λ (q : Constants). AsksIfScheduled q c.take-state.result) (same_key c.args.self.now.constants k c.args.pass.now.view.constants c.requires.pass.1 e) c.take-state.ensures.found.asks) t.3 t.4;
      wanted = pulse_wanted c.args.pass.now _ t.0 t.1 c.args.now c.deliver-pulse.result t.2
          (λ k e. subst (λ (q : Constants). AsksIfScheduled q c.take-state.result) (same_key c.args.self.now.constants k c.args.pass.now.view.constants c.requires.pass.1 e) c.take-state.ensures.found.asks)
          (λ k e. subst (λ (q : Constants). SchedulesIfWanted q c.take-state.result) (same_key c.args.self.now.constants k c.args.pass.now.view.constants c.requires.pass.1 e) c.take-state.ensures.found.wanted) t.3 t.4;
    }
