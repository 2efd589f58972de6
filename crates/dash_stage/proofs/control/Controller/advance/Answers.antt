use Rattle.std.proofs.Common.{arith, sym, ◌∙◌}
use Rattle.std.proofs.lemmas.Bool.{and_parts}
use mathlib.Core.Logic.{dite}
use native.Mathlib.Decide.{ℕ_discrete}
use Rattle.dash_stage.specs.Timeliness.{MovesTo}
use Rattle.dash_stage.proofs.Controller.Controlling.{poster_count}
use Rattle.dash_stage.proofs.Controller.ControlTurns.{below_none, below_all, stuck_more, below_more, come_more}
use Rattle.dash_stage.proofs.control.Controller.advance.Goals as goal

pub loop-place-init : goal.loop-place-init
loop-place-init g c = record {
  controller = c.requires.at.controller;
  pace = record { moving = c.requires.moving; reached = λ reached. reached; by = λ t le by. by };
  turns = below_none (MovesTo c.args.now) c.args.self.now;
  reached = λ drained some. absurd (omega (arith, some));
  come = λ drained q d lt. absurd (omega (arith, lt));
  stuck = λ wrong. absurd cc;
}

pub advance_one-requires : goal.advance_one-requires
advance_one-requires g c = record {
  at = record { is_hall = c.requires.at.is_hall; controller = c.loop-place.invariant.controller; known = omega (arith, c.loop-place-test.true) };
  within = c.requires.within;
  moving = c.loop-place.invariant.pace.moving;
}

pub loop-place-preserved : goal.loop-place-preserved
loop-place-preserved g c =
    let s = c.args.script.now in
    let hall = c.requires.at.is_hall in
    let n = c.loop-place.place in
    let first = c.args.self.now in
    let now = c.loop-place.self in
    let after = c.advance_one.new.self in
    let at = c.loop-place.invariant in
    let alone = c.advance_one.ensures.alone in
    let pace = c.advance_one.ensures.pace in
    let one = c.in_ok-drained.ensures.one in
    let count = poster_count s c.args.hall.now after hall alone.controller ∙ sym (poster_count s c.args.hall.now now hall at.controller) in
    record {
      controller = alone.controller;
      pace = record { moving = pace.moving; reached = λ reached. pace.reached (at.pace.reached reached); by = λ t le by. pace.by t le (at.pace.by t le by) };
      turns = below_more (MovesTo c.args.now) n first now after at.turns count one.here alone.elsewhere;
      reached = λ all some. (let both = and_parts c.loop-place.drained _ all in dite (ℕ_discrete n 0) (λ main. one.reached both.1 main) (λ side. pace.reached (at.reached both.0 (omega (arith, side)))));
      come = λ all. (let both = and_parts c.loop-place.drained _ all in come_more s c.args.now n now after (at.come both.0) (one.come both.1) alone.elsewhere);
      stuck = stuck_more s c.args.now n now after c.loop-place.drained _ at.stuck one.stuck alone.elsewhere;
    }

pub returns-clause-all : goal.returns-clause-all
returns-clause-all g c =
    let at = c.loop-place.invariant in
    let n = c.loop-place.place in
    let past = c.loop-place-test.false in
    let some = c.requires.at.known in
    let within = c.loop-place.auto.place-end in
    let count = poster_count c.args.script.now c.args.hall.now c.loop-place.self c.requires.at.is_hall at.controller in
    let first = poster_count c.args.script.now c.args.hall.now c.args.self.now c.requires.at.is_hall c.requires.at.controller in
    record {
      turns = below_all (MovesTo c.args.now) n c.args.self.now c.loop-place.self (omega (arith, first, past)) at.turns;
      reached = λ drained. at.reached drained (omega (arith, past, some));
      come = λ drained q d lt. at.come drained q d (omega (arith, count, lt, past));
      stuck = λ left. (let h = at.stuck left in let lt = h.1 in (h.0, omega (arith, lt, within), h.2));
    }
