use Rattle.std.proofs.Common.{rules, sym, ap, ◌∙◌, subst}
use Rattle.choreographer.specs.Plays.{Sat, MayPulse}
use Rattle.choreographer.specs.Known.{Pass}
use Rattle.choreographer.proofs.ByTurn.{turned, may_pulse}
use Rattle.choreographer.proofs.Stamps.{stamped_take}
use Rattle.choreographer.proofs.Waits.{taken_waits}
use Rattle.choreographer.proofs.Wanting.{taken_wanted}
use Rattle.choreographer.proofs.table.Choreographer.take_turn.Goals as goal

pub give-requires-clause-leaves : goal.give-requires-clause-leaves
give-requires-clause-leaves g c = record {
  state = search rules;
  stamped = stamped_take c.take-state.result c.take-answer.new.self c.take-state.ensures.found.stamped c.args.phase c.args.now c.take-answer.result c.take-answer.ensures.takes c.take-answer.ensures.stamp;
  handed = search rules;
  latest = subst (λ (z : Sat). MayPulse c.args.self.now.constants z.0 c.take-answer.new.self) (sym c.take-state.ensures.taken)
      (may_pulse c.args.self.now.constants c.pass.inside.seat.me.0 c.take-state.result c.take-answer.new.self c.take-state.new.seat.me.0.heard c.pass.inside.number c.pass.invariant.2
      (λ n named. ap (λ (p : Pass). p.number) c.pass.view_is ∙ c.requires.delivers n named));
  asks = (taken_waits c.take-state.result c.take-answer.new.self c.args.phase c.args.now c.take-answer.result c.take-answer.ensures.takes).asks c.args.self.now.constants c.take-state.ensures.found.asks;
  wanted = taken_wanted c.args.self.now.constants c.take-state.result c.take-answer.new.self c.take-state.ensures.found.wanted c.args.phase c.args.now c.take-answer.result c.take-answer.ensures.takes c.take-answer.ensures.stamp;
}

pub returns : goal.returns
returns g c =
    let x = c.take-state.result in
    let y = c.take-answer.new.self in
    let t = c.take-state.ensures in (
      x,
      y,
      turned c.args.self.now.constants (record { table = c.pass.inside.seat.table_id; number = c.pass.inside.number; view = c.pass.inside.seat.me.0 }) c.args.pass.now _ x y c.take-state.new.seat.me c.give.new.seat.me
          c.pass.view_is c.requires.pass.0.1 c.pass.invariant.2 c.pass.invariant.3 t.taken t.found.state t.found.heard t.found.latest (search rules) (c.take-answer.ensures.steps.1) (c.give.ensures.2, c.give.ensures.3) (search rules),
      search rules,
      search rules,
      search rules,
    )
