use Rattle.std.proofs.Common.{rules, arith}
use Rattle.choreographer.proofs.ByTurn.{turned, keeps_pulse}
use Rattle.choreographer.proofs.Quiet.{grows_prefix}
use Rattle.choreographer.proofs.Stamps.{stamped_due}
use Rattle.choreographer.proofs.Waits.{due_waits}
use Rattle.choreographer.proofs.Wanting.{due_wanted}
use Rattle.choreographer.proofs.table.Choreographer.due_turn.Goals as goal

pub give-requires-clause-leaves : goal.give-requires-clause-leaves
give-requires-clause-leaves g c = record {
  state = search rules;
  stamped = (
      let e = c.schedule_due-did.ensures in
      stamped_due c.take-state.result c.schedule_due-did.new.self c.take-state.ensures.found.stamped c.args.now c.schedule_due-did.result e.after e.quiet e.stamp);
  handed = search rules;
  latest = keeps_pulse c.args.self.now.constants c.pass.inside.seat.me.0 c.take-state.result c.schedule_due-did.new.self c.take-state.new.seat.me c.take-state.ensures.taken c.schedule_due-did.ensures.stamp (due_waits c.take-state.result c.schedule_due-did.new.self c.args.now c.schedule_due-did.result c.schedule_due-did.ensures.after) c.take-state.ensures.found.asks c.schedule_due-did.ensures.quiet.1;
  asks = (due_waits c.take-state.result c.schedule_due-did.new.self c.args.now c.schedule_due-did.result c.schedule_due-did.ensures.after).asks c.args.self.now.constants c.take-state.ensures.found.asks;
  wanted = due_wanted c.args.self.now.constants c.take-state.result c.schedule_due-did.new.self c.take-state.ensures.found.wanted c.args.phase c.args.now c.schedule_due-did.result c.take-state.ensures.found.stamped.interval (omega (arith, c.ranges.now)) c.schedule_due-did.ensures.wanted c.schedule_due-did.ensures.after;
}

pub returns : goal.returns
returns g c =
    let x = c.take-state.result in
    let y = c.schedule_due-did.new.self in
    let t = c.take-state.ensures in (
      x,
      y,
      turned c.args.self.now.constants (record { table = c.pass.inside.seat.table_id; number = c.pass.inside.number; view = c.pass.inside.seat.me.0 }) c.args.pass.now _ x y c.take-state.new.seat.me c.give.new.seat.me
          c.pass.view_is c.requires.0.1 c.pass.invariant.2 c.pass.invariant.3 t.taken t.found.state t.found.heard t.found.latest (search rules) (grows_prefix x.frames.entries y.frames.entries c.schedule_due-did.ensures.quiet.1) (c.give.ensures.2, c.give.ensures.3) (search rules),
      search rules,
      search rules,
    )
