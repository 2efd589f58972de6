use Rattle.std.proofs.Common.{rules}
use Rattle.choreographer.proofs.ByTurn.{turned, keeps_pulse}
use Rattle.choreographer.proofs.Quiet.{grows_prefix}
use Rattle.choreographer.proofs.Stamps.{stamped_removed}
use Rattle.choreographer.proofs.Waits.{removed_waits}
use Rattle.choreographer.proofs.Wanting.{removed_wanted}
use Rattle.choreographer.proofs.Parts.{removed_stays}
use Rattle.choreographer.proofs.table.Choreographer.remove_callbacks.Goals as goal

pub give-requires-clause-leaves : goal.give-requires-clause-leaves
give-requires-clause-leaves g c = record {
  state = search rules;
  stamped = (
      let e = c.remove-answer.ensures in
      stamped_removed c.take-state.result c.remove-answer.new.self c.take-state.ensures.found.stamped c.args.phase c.args.id c.args.token c.remove-answer.result e.after e.err e.quiet e.stamp);
  handed = search rules;
  latest = keeps_pulse c.args.self.now.constants c.pass.inside.seat.me.0 c.take-state.result c.remove-answer.new.self c.take-state.new.seat.me c.take-state.ensures.taken c.remove-answer.ensures.stamp (removed_waits c.take-state.result c.remove-answer.new.self c.args.phase c.args.id c.args.token c.remove-answer.result c.remove-answer.ensures.after c.remove-answer.ensures.err) c.take-state.ensures.found.asks c.remove-answer.ensures.quiet.1;
  asks = (removed_waits c.take-state.result c.remove-answer.new.self c.args.phase c.args.id c.args.token c.remove-answer.result c.remove-answer.ensures.after c.remove-answer.ensures.err).asks c.args.self.now.constants c.take-state.ensures.found.asks;
  wanted = removed_wanted c.args.self.now.constants c.take-state.result c.remove-answer.new.self c.take-state.ensures.found.wanted c.args.phase c.args.id c.args.token c.remove-answer.result c.remove-answer.ensures.after c.remove-answer.ensures.err;
}

pub returns-clause-turn : goal.returns-clause-turn
returns-clause-turn g c =
    let x = c.take-state.result in
    let y = c.remove-answer.new.self in
    let t = c.take-state.ensures in (
      x,
      y,
      turned c.args.self.now.constants (record { table = c.pass.inside.seat.table_id; number = c.pass.inside.number; view = c.pass.inside.seat.me.0 }) c.args.pass.now _ x y c.take-state.new.seat.me c.give.new.seat.me
          c.pass.view_is c.requires.0.1 c.pass.invariant.2 c.pass.invariant.3 t.taken t.found.state t.found.heard t.found.latest (search rules) (grows_prefix x.frames.entries y.frames.entries c.remove-answer.ensures.quiet.1) (c.give.ensures.2, c.give.ensures.3) (search rules),
      search rules,
      search rules,
      search rules,
    )

pub returns-clause-frame : goal.returns-clause-frame
returns-clause-frame g c = removed_stays c.args.self.now.constants.phases c.args.pass.now _ c.args.phase c.args.id c.args.token _ (returns-clause-turn g c)
