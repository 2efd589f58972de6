use Rattle.std.proofs.Common.{rules, arith}
use Rattle.choreographer.proofs.ByTurn.{turned, keeps_pulse}
use Rattle.choreographer.proofs.Quiet.{grows_prefix}
use Rattle.choreographer.proofs.Stamps.{stamped_posted}
use Rattle.choreographer.proofs.Waits.{posted_waits}
use Rattle.choreographer.proofs.Wanting.{posted_wanted}
use Rattle.choreographer.proofs.table.Choreographer.post_turn.Goals as goal

pub give-requires-clause-leaves : goal.give-requires-clause-leaves
give-requires-clause-leaves g c = record {
  state = search rules;
  stamped = (
      let e = c.post-answer.ensures in
      let a = c.args.asked in stamped_posted c.take-state.result c.post-answer.new.self c.take-state.ensures.found.stamped a.phase a.due a.id a.token c.args.now c.post-answer.result e.after e.err e.quiet e.stamp);
  handed = search rules;
  latest = keeps_pulse c.args.self.now.constants c.pass.inside.seat.me.0 c.take-state.result c.post-answer.new.self c.take-state.new.seat.me c.take-state.ensures.taken c.post-answer.ensures.stamp (posted_waits c.take-state.result c.post-answer.new.self c.args.asked.phase c.args.asked.due c.args.asked.id c.args.asked.token c.args.now c.post-answer.result c.post-answer.ensures.after c.post-answer.ensures.err) c.take-state.ensures.found.asks c.post-answer.ensures.quiet.1;
  asks = (posted_waits c.take-state.result c.post-answer.new.self c.args.asked.phase c.args.asked.due c.args.asked.id c.args.asked.token c.args.now c.post-answer.result c.post-answer.ensures.after c.post-answer.ensures.err).asks c.args.self.now.constants c.take-state.ensures.found.asks;
  wanted = posted_wanted c.args.self.now.constants c.take-state.result c.post-answer.new.self c.take-state.ensures.found.wanted c.args.asked.phase c.args.asked.due c.args.asked.id c.args.asked.token c.args.now c.post-answer.result c.take-state.ensures.found.stamped.interval (omega (arith, c.ranges.now)) c.post-answer.ensures.after c.post-answer.ensures.err;
}

pub returns : goal.returns
returns g c =
    let x = c.take-state.result in
    let y = c.post-answer.new.self in
    let t = c.take-state.ensures in (
      x,
      y,
      turned c.args.self.now.constants (record { table = c.pass.inside.seat.table_id; number = c.pass.inside.number; view = c.pass.inside.seat.me.0 }) c.args.pass.now _ x y c.take-state.new.seat.me c.give.new.seat.me
          c.pass.view_is c.requires.0.1 c.pass.invariant.2 c.pass.invariant.3 t.taken t.found.state t.found.heard t.found.latest (search rules) (grows_prefix x.frames.entries y.frames.entries c.post-answer.ensures.quiet.1) (c.give.ensures.2, c.give.ensures.3) (search rules),
      search rules,
      search rules,
      search rules,
    )
