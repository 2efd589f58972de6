use Rattle.std.proofs.Common.{refl, arith}
use Rattle.dash_stage.proofs.Controller.Controlling.{rung_more, rest_less}
use Rattle.dash_stage.proofs.control.Controller.ring_all.Goals as goal

pub loop-looper-init : goal.loop-looper-init
loop-looper-init g c = record {
  controller = c.requires.controller;
  rung = λ q below. absurd (omega (arith, below));
  rest = λ q d le. refl;
}

pub ring-requires : goal.ring-requires
ring-requires g c = record { at = record { is_hall = c.requires.is_hall; controller = c.loop-looper.invariant.controller; known = omega (arith, c.loop-looper-test.true) } }

pub loop-looper-preserved : goal.loop-looper-preserved
loop-looper-preserved g c =
    let at = c.loop-looper in
    let first = c.args.self.now in
    let after = c.ring.new.self in
    record {
      controller = c.ring.ensures.alone.controller;
      rung = rung_more at.looper first at.self after at.invariant.rest c.ring.ensures.alone.elsewhere at.invariant.rung c.ring.ensures.rung;
      rest = rest_less 0 at.looper first at.self after at.invariant.rest c.ring.ensures.alone.elsewhere;
    }

pub returns-clause-rung : goal.returns-clause-rung
returns-clause-rung g c q below = c.loop-looper.invariant.rung q (omega (arith, below, c.loop-looper-test.false))
