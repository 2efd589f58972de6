use Rattle.std.proofs.Common.{◌≡◌, ◌≤◌, false, true≢false, length, sym, ◌∙◌, arith}
use Rattle.std.proofs.lemmas.Bool.{and_parts}
use Rattle.run_model.specs.Moments.{Mode}
use Rattle.run_model.specs.ByClock.{in_free_mode}
use Rattle.dash_stage.specs.Controllers.{CanTurn}
use Rattle.dash_stage.proofs.Controller.Controlling.{poster_count, all_rung, still_no_less}
use Rattle.dash_loopers.proofs.LooperMoments.{of_shown}
use Rattle.std.specs.Prelude.{slice_index_or}
use Rattle.dash_stage.proofs.ByClock.{sees_self, sees_one, quits_see, in_free, in_its_mode}
use Rattle.dash_stage.proofs.Controller.ControlTurns.{may_quit, quits_more, quits_clocked, quitting_begins, quitting_ends}
use Rattle.dash_stage.proofs.free.quit_others.Goals as goal

pub give_up-requires : goal.give_up-requires
give_up-requires g c = let can = c.requires.can in
    record { at = record { is_hall = can.hall.0; controller = in_its_mode c.args.script.now c.args.hall.now c.args.controller.now can.hall.1 can.controller; known = can.some } }

pub quit_unless-done-requires : goal.quit_unless-done-requires
quit_unless-done-requires g c = record { at = record { is_hall = c.requires.can.hall.0; controller = c.loop-looper.invariant.controller; known = omega (arith, c.loop-looper-test.true) } }

pub loop-looper-init : goal.loop-looper-init
loop-looper-init g c = record {
  controller = in_its_mode c.args.script.now c.args.hall.now c.args.controller.now c.requires.can.hall.1 c.requires.can.controller;
  some = omega arith;
  quitting = λ done. quitting_begins c.args.script.now c.args.controller.now c.requires.can.none;
  bells = λ q d. omega arith;
  more = λ done. sees_self c.args.controller.now;
  clocked = λ done m moment by. by;
}

pub loop-looper-preserved : goal.loop-looper-preserved
loop-looper-preserved g c =
    let s = c.args.script.now in
    let hall = c.args.hall.now in
    let h = c.requires.can.hall.0 in
    let at = c.loop-looper in
    let was = at.invariant.controller in
    let may : CanTurn false s hall at.looper at.controller = record { is_hall = h; controller = in_free s hall at.controller c.requires.can.hall.1 was; known = omega (arith, c.loop-looper-test.true) } in
    let next = c.quit_unless-done.new.self in
    let done = c.quit_unless-done.ensures in
    let here = may_quit at.looper at.controller next c.in-Ok.now _ _ done.left done.made in
    let elsewhere = done.alone.elsewhere in
    let long : length next.kit.posters.items ≡ length at.controller.kit.posters.items = poster_count s hall next h done.alone.controller ∙ sym (poster_count s hall at.controller h was) in
    record {
      controller = done.alone.controller;
      some = omega arith;
      quitting = λ all. (let both = and_parts at.done _ all in
          quits_more may next c.in-Ok.now long (here both.1) elsewhere at.invariant.some c.in-Ok.ensures.late.late (at.invariant.quitting both.0));
      bells = still_no_less c.args.controller.now at.controller next at.invariant.bells done.bells;
      more = λ all. (let both = and_parts at.done _ all in
          sees_one c.args.controller.now at.controller next at.looper long
          (λ d. quits_see (slice_index_or at.controller.kit.posters.items at.looper d) (slice_index_or next.kit.posters.items at.looper d) c.in-Ok.now (here both.1 d)) elsewhere (at.invariant.more both.0));
      clocked = λ all m moment by. (let both = and_parts at.done _ all in
          quits_clocked may next c.in-Ok.now long (here both.1) elsewhere m moment (at.invariant.clocked both.0 m moment by));
    }

pub returns-in_default : goal.returns-in_default
returns-in_default g c = record {
  heeds = λ given. absurd (true≢false (sym given));
  quit = λ given. absurd (true≢false (sym given));
  rung = λ given. all_rung c.args.script.now.loopers c.args.controller.now c.give_up.new.self c.ring_all.new.self c.give_up.ensures.bells c.ring_all.ensures.rung;
}

pub returns-then-not-done : goal.returns-then-not-done
returns-then-not-done g c =
    let at = c.loop-looper in
    let wrong : at.done ≡ false = c.if-not-done.true in
    record {
      heeds = λ given. absurd (true≢false (sym given ∙ wrong));
      quit = λ given. absurd (true≢false (sym given ∙ wrong));
      rung = λ given. all_rung c.args.script.now.loopers c.args.controller.now at.controller c.ring_all-then-not-done.new.self at.invariant.bells c.ring_all-then-not-done.ensures.rung;
    }

pub returns-else-not-done : goal.returns-else-not-done
returns-else-not-done g c =
    let s = c.args.script.now in
    let hall = c.args.hall.now in
    let at = c.loop-looper in
    let m : Mode = in_free_mode (g.C.Clock.shows c.args.timer.now.clock.now) c.args.timer.now.start in
    let count = poster_count s hall at.controller c.requires.can.hall.0 at.invariant.controller in
    let all : length at.controller.kit.posters.items ≤ at.looper = omega (arith, count, c.loop-looper-test.false) in
    record {
      heeds = λ done. c.in-Ok.ensures.heeds;
      quit = λ done. record {
        more = at.invariant.more done;
        controller = in_free s hall at.controller c.requires.can.hall.1 at.invariant.controller;
        closing = quitting_ends s at.controller at.looper all (at.invariant.quitting done);
        clocked = at.invariant.clocked done m (of_shown (g.C.Clock.shows c.args.timer.now.clock.now) c.args.timer.now.start c.in-Ok.now c.in-Ok.ensures.late.moment);
      };
      rung = λ given. absurd (true≢false (sym c.if-not-done.false ∙ given));
    }
