use Rattle.std.proofs.Common.{arith}
use Rattle.std.proofs.lemmas.Bool.{and_parts}
use Rattle.dash_stage.proofs.Controller.Controlling.{poster_count, quit_more, rest_less, nudged_kept, one_rung, still_no_less}
use Rattle.dash_stage.proofs.control.Controller.give_up.Goals as goal

pub loop-looper-init : goal.loop-looper-init
loop-looper-init g c = record {
  controller = c.ring.ensures.alone.controller;
  some = omega arith;
  nudged = c.ring.ensures.rung;
  bells = one_rung 0 c.args.self.now c.ring.new.self c.ring.ensures.alone.elsewhere c.ring.ensures.rung;
  quit = λ done q d some below. absurd (omega (arith, some, below));
  rest = λ q d le. c.ring.ensures.alone.elsewhere q d (λ e. absurd (omega (arith, e, le)));
}

pub quit_now-done-requires : goal.quit_now-done-requires
quit_now-done-requires g c = record { at = record { is_hall = c.requires.at.is_hall; controller = c.loop-looper.invariant.controller; known = omega (arith, c.loop-looper-test.true) } }

pub loop-looper-preserved : goal.loop-looper-preserved
loop-looper-preserved g c =
    let at = c.loop-looper in
    let first = c.args.self.now in
    let after = c.quit_now-done.new.self in
    record {
      controller = c.quit_now-done.ensures.alone.controller;
      some = omega arith;
      nudged = nudged_kept first at.self after at.invariant.nudged (λ d. c.quit_now-done.ensures.alone.elsewhere 0 d (λ e. let one = at.invariant.some in absurd (omega (arith, e, one))));
      bells = still_no_less first at.self after at.invariant.bells c.quit_now-done.ensures.bells;
      quit = λ done. (let both = and_parts at.done _ done in
          quit_more c.args.now at.looper first at.self after at.invariant.rest c.quit_now-done.ensures.alone.elsewhere (at.invariant.quit both.0) (c.quit_now-done.ensures.here both.1));
      rest = rest_less c.args.now at.looper first at.self after at.invariant.rest c.quit_now-done.ensures.alone.elsewhere;
    }

pub returns : goal.returns
returns g c =
    let at = c.loop-looper.invariant in
    let count = poster_count c.args.script.now c.args.hall.now c.args.self.now c.requires.at.is_hall c.requires.at.controller in
    record {
      controller = at.controller;
      nudged = at.nudged;
      bells = at.bells;
      quit = λ done q d some below. at.quit done q d some (omega (arith, count, below, c.loop-looper-test.false));
    }
