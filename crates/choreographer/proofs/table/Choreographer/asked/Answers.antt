use Rattle.std.proofs.Common.{rules, refl}
use Rattle.loop_model.proofs.Prefixes.{prefix_self}
use Rattle.choreographer.proofs.ByTurn.{turned, keeps_pulse}
use Rattle.choreographer.proofs.Quiet.{grows_self}
use Rattle.choreographer.proofs.Waits.{keeps_all}
use Rattle.choreographer.proofs.Parts.{asked_stays}
use Rattle.choreographer.proofs.table.Choreographer.asked.Goals as goal

pub give-requires-clause-leaves : goal.give-requires-clause-leaves
give-requires-clause-leaves g c = record {
  state = search rules;
  stamped = search rules;
  handed = search rules;
  latest = keeps_pulse c.args.self.now.constants c.pass.inside.seat.me.0 c.take-state.result c.take-state.result c.take-state.new.seat.me c.take-state.ensures.taken refl (keeps_all c.take-state.result c.take-state.result refl) c.take-state.ensures.found.asks (grows_self c.take-state.result.frames.entries);
  asks = search rules;
  wanted = search rules;
}

pub returns-clause-turn : goal.returns-clause-turn
returns-clause-turn g c =
    let x = c.take-state.result in
    let t = c.take-state.ensures in (
      x,
      turned c.args.self.now.constants (record { table = c.pass.inside.seat.table_id; number = c.pass.inside.number; view = c.pass.inside.seat.me.0 }) c.args.pass.now _ x x c.take-state.new.seat.me c.give.new.seat.me
          c.pass.view_is c.requires.1 c.pass.invariant.2 c.pass.invariant.3 t.taken t.found.state t.found.heard t.found.latest t.found.state.0 (prefix_self x.frames.entries) (c.give.ensures.2, c.give.ensures.3) (search rules),
      c.asked-asked.ensures.asked,
    )

pub returns-clause-frame : goal.returns-clause-frame
returns-clause-frame g c = asked_stays c.args.self.now.constants.phases c.args.pass.now _ _ (returns-clause-turn g c)
